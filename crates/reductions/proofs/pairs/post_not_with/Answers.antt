use Rattle.std.proofs.Common.{ℕ, ◌+◌, [], ◌∷◌, drop, is_ok, slice_index, inl, ap, subst}
use Rattle.rows.specs.Literals.{opposite}
use Rattle.solver.specs.Calls.{Posts}
use Rattle.reductions.specs.Translations.{not_with}
use Rattle.reductions.proofs.PairsPosting.{not-with-at}
use Rattle.reductions.proofs.Passing
use Rattle.reductions.proofs.Passing.{Going}
use Rattle.reductions.proofs.pairs.post_not_with.Goals as goal

pub returns-in_err-post-clause-passes : goal.returns-in_err-post-clause-passes
returns-in_err-post-clause-passes g c = λ s.
    let l = c.args.literal in
    let row = c.args.others.now in
    let i = c.loop-other.other-index in
    let m = g.S.Solver.means c.args.below.now in
    let m₁ = g.S.Solver.means c.loop-other.below in
    let m₂ = g.S.Solver.means c.post.new.self in
    let (k, v) = c.loop-other.invariant in
    let (s₁, w) = v s in
    let r = opposite l ∷ opposite (slice_index row i) ∷ [] in
    let p₀ = subst (λ (j : ℕ). Posts m₁ m₂ (j ∷ c.negated-in-loop-other.result ∷ []) c.post.result) c.negated.ensures (c.post.ensures.posts (inl s₁)) in
    let p = subst (λ (j : ℕ). Posts m₁ m₂ (opposite l ∷ j ∷ []) c.post.result) c.negated-in-loop-other.ensures p₀ in
    let w₁ = subst (Going m m₁ (not_with l row)) (not-with-at l row i c.loop-other-test.true) w in
    Passing.going-stop m m₁ k (not_with l row) m₂ c.post.result (r ∷ []) (Passing.passes-one m₁ m₂ r c.post.result p) (not_with l (drop (i + 1) row)) w₁ (ap is_ok c.in_err-post.was) c.from_residual.result

pub loop-other-preserved : goal.loop-other-preserved
loop-other-preserved g c =
    let l = c.args.literal in
    let row = c.args.others.now in
    let i = c.loop-other.other-index in
    let m = g.S.Solver.means c.args.below.now in
    let m₁ = g.S.Solver.means c.loop-other.below in
    let m₂ = g.S.Solver.means c.post.new.self in
    let (k, v) = c.loop-other.invariant in (
      Passing.kept-then m m₁ m₂ k c.post.ensures.kept,
      λ s.
          let (s₁, w) = v s in
          let r = opposite l ∷ opposite (slice_index row i) ∷ [] in
          let p₀ = subst (λ (j : ℕ). Posts m₁ m₂ (j ∷ c.negated-in-loop-other.result ∷ []) c.post.result) c.negated.ensures (c.post.ensures.posts (inl s₁)) in
          let p = subst (λ (j : ℕ). Posts m₁ m₂ (opposite l ∷ j ∷ []) c.post.result) c.negated-in-loop-other.ensures p₀ in
          let w₁ = subst (Going m m₁ (not_with l row)) (not-with-at l row i c.loop-other-test.true) w in
          (c.post.ensures.still s₁, Passing.going-more m m₁ k (not_with l row) m₂ c.post.result (r ∷ []) (Passing.passes-one m₁ m₂ r c.post.result p) (not_with l (drop (i + 1) row)) w₁),
    )
