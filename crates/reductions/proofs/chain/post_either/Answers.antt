use Rattle.std.proofs.Common.{ℕ, is_ok, [], ◌∷◌, inl, ap, subst}
use Rattle.rows.specs.Literals.{opposite}
use Rattle.solver.specs.Calls.{Posts}
use Rattle.reductions.specs.Translations.{either}
use Rattle.reductions.proofs.Passing.{posting-last, posting-more, posting-start, posting-stop}
use Rattle.reductions.proofs.chain.post_either.Goals as goal

pub returns-in_err-post-clause-passes : goal.returns-in_err-post-clause-passes
returns-in_err-post-clause-passes g c = λ s.
    let y = c.args.link in
    let p = c.args.p in
    let q = c.args.q in
    let m = g.S.Solver.means c.args.below.now in
    let m₁ = g.S.Solver.means c.post.new.self in
    let p₁ = subst (λ (l : ℕ). Posts m m₁ (l ∷ p ∷ q ∷ []) c.post.result) c.negated.ensures (c.post.ensures.posts (inl s)) in
    posting-stop m₁ (opposite y ∷ p ∷ q ∷ []) _ (posting-start m (either y p q)) c.post.result p₁ (ap is_ok c.in_err-post.was) c.from_residual.result

pub returns-in_err-post-2-clause-passes : goal.returns-in_err-post-2-clause-passes
returns-in_err-post-2-clause-passes g c = λ s.
    let y = c.args.link in
    let p = c.args.p in
    let q = c.args.q in
    let m = g.S.Solver.means c.args.below.now in
    let m₁ = g.S.Solver.means c.post.new.self in
    let m₂ = g.S.Solver.means c.post-2.new.self in
    let p₁ = subst (λ (l : ℕ). Posts m m₁ (l ∷ p ∷ q ∷ []) c.post.result) c.negated.ensures (c.post.ensures.posts (inl s)) in
    let p₂ = subst (λ (l : ℕ). Posts m₁ m₂ (y ∷ l ∷ []) c.post-2.result) c.negated-2.ensures (c.post-2.ensures.posts (inl (c.post.ensures.still s))) in
    let a₁ = posting-more m₁ (opposite y ∷ p ∷ q ∷ []) _ (posting-start m (either y p q)) c.post.result p₁ c.post.ensures.kept in
    posting-stop m₂ (y ∷ opposite p ∷ []) _ a₁ c.post-2.result p₂ (ap is_ok c.in_err-post-2.was) c.from_residual-in_err-post-2.result

pub returns-clause-passes : goal.returns-clause-passes
returns-clause-passes g c = λ s.
    let y = c.args.link in
    let p = c.args.p in
    let q = c.args.q in
    let m = g.S.Solver.means c.args.below.now in
    let m₁ = g.S.Solver.means c.post.new.self in
    let m₂ = g.S.Solver.means c.post-2.new.self in
    let m₃ = g.S.Solver.means c.post-3.new.self in
    let s₁ = c.post.ensures.still s in
    let p₁ = subst (λ (l : ℕ). Posts m m₁ (l ∷ p ∷ q ∷ []) c.post.result) c.negated.ensures (c.post.ensures.posts (inl s)) in
    let p₂ = subst (λ (l : ℕ). Posts m₁ m₂ (y ∷ l ∷ []) c.post-2.result) c.negated-2.ensures (c.post-2.ensures.posts (inl s₁)) in
    let p₃ = subst (λ (l : ℕ). Posts m₂ m₃ (y ∷ l ∷ []) c.post-3.result) c.negated-3.ensures (c.post-3.ensures.posts (inl (c.post-2.ensures.still s₁))) in
    let a₁ = posting-more m₁ (opposite y ∷ p ∷ q ∷ []) _ (posting-start m (either y p q)) c.post.result p₁ c.post.ensures.kept in
    let a₂ = posting-more m₂ (y ∷ opposite p ∷ []) _ a₁ c.post-2.result p₂ c.post-2.ensures.kept in
    posting-last m₃ (y ∷ opposite q ∷ []) a₂ c.post-3.result p₃
