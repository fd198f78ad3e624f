use Rattle.std.proofs.Common.{◌≡◌, ℕ, ◌+◌, ◌-◌, ◌*◌, ◌<◌, [], ◌∷◌, length, drop, take, is_ok, slice_index, inl, sym, ap, subst, arith}
use Rattle.reductions.specs.Joints.{Passes}
use Rattle.reductions.specs.Translations.{chain_rows, either, links}
use Rattle.reductions.proofs.ChainPosting as chain
use Rattle.reductions.proofs.Passing
use Rattle.reductions.proofs.Passing.{Going}
use Rattle.reductions.proofs.chain.ChainTranslation.translate.Goals as goal

pub returns-then-row-le3-clause-passes : goal.returns-then-row-le3-clause-passes
returns-then-row-le3-clause-passes g c = λ s.
    let row = c.args.row.now in
    let m = g.S.Solver.means c.args.below.now in
    let m₁ = g.S.Solver.means c.post.new.self in
    subst (λ rows. Passes m m₁ rows c.post.result) (sym (chain.chain-short row c.args.helper c.if-row-le3.true)) (Passing.passes-one m m₁ row c.post.result (c.post.ensures.posts (inl s)))

pub returns-in_err-link-clause-passes : goal.returns-in_err-link-clause-passes
returns-in_err-link-clause-passes g c = λ s t.
    let row = c.args.row.now in
    let i = c.loop-literal.literal-index in
    let p = c.loop-literal.first in
    let h = c.loop-literal.next in
    let m = g.S.Solver.means c.args.below.now in
    let m₁ = g.S.Solver.means c.loop-literal.below in
    let (k, v) = c.loop-literal.invariant in
    let (s₁, w) = v s in
    let long = c.if-row-le3.false in
    let inside : i < length row - 3 = subst (λ n. i < n) (chain.between row long) c.loop-literal-test.true in
    let w₁ = subst (Going m m₁ (chain_rows row c.args.helper)) (chain.link row i p h inside) w in
    let a = Passing.variables-left m m₁ k (chain_rows row c.args.helper) _ w₁ t 1 [] (omega arith) 0 0 (omega arith) in
    let n = (g.met.S.Solver.lawful c.loop-literal.below s₁).narrow in
    let e = c.in_err-link.ensures in
    absurd (omega arith)

pub returns-in_err-post_either-clause-passes : goal.returns-in_err-post_either-clause-passes
returns-in_err-post_either-clause-passes g c = λ s.
    let row = c.args.row.now in
    let i = c.loop-literal.literal-index in
    let p = c.loop-literal.first in
    let h = c.loop-literal.next in
    let m = g.S.Solver.means c.args.below.now in
    let m₁ = g.S.Solver.means c.loop-literal.below in
    let m₂ = g.S.Solver.means c.post_either.new.below in
    let (k, v) = c.loop-literal.invariant in
    let (s₁, w) = v s in
    let long = c.if-row-le3.false in
    let inside : i < length row - 3 = subst (λ n. i < n) (chain.between row long) c.loop-literal-test.true in
    let w₁ = subst (Going m m₁ (chain_rows row c.args.helper)) (chain.link row i p h inside) w in
    let a = subst (λ (y : ℕ). Passes m₁ m₂ (either y p (slice_index (take (length row - 2 - 1) (drop 1 row)) i)) c.post_either.result) c.in_ok-link.ensures.1 (c.post_either.ensures.passes s₁) in
    let b = subst (λ (q : ℕ). Passes m₁ m₂ (either (2 * h) p q) c.post_either.result) (chain.middle row i p h inside) a in
    Passing.going-stop m m₁ k (chain_rows row c.args.helper) m₂ c.post_either.result (either (2 * h) p (slice_index row (i + 1))) b _ w₁ (ap is_ok c.in_err-post_either.was) c.from_residual-in_err-post_either.result

pub loop-literal-preserved : goal.loop-literal-preserved
loop-literal-preserved g c =
    let row = c.args.row.now in
    let i = c.loop-literal.literal-index in
    let p = c.loop-literal.first in
    let h = c.loop-literal.next in
    let m = g.S.Solver.means c.args.below.now in
    let m₁ = g.S.Solver.means c.loop-literal.below in
    let m₂ = g.S.Solver.means c.post_either.new.below in
    let (k, v) = c.loop-literal.invariant in (
      Passing.kept-then m m₁ m₂ k c.post_either.ensures.kept,
      λ s.
          let (s₁, w) = v s in
          let long = c.if-row-le3.false in
          let inside : i < length row - 3 = subst (λ n. i < n) (chain.between row long) c.loop-literal-test.true in
          let w₁ = subst (Going m m₁ (chain_rows row c.args.helper)) (chain.link row i p h inside) w in
          let a = subst (λ (y : ℕ). Passes m₁ m₂ (either y p (slice_index (take (length row - 2 - 1) (drop 1 row)) i)) c.post_either.result) c.in_ok-link.ensures.1 (c.post_either.ensures.passes s₁) in
          let b = subst (λ (q : ℕ). Passes m₁ m₂ (either (2 * h) p q) c.post_either.result) (chain.middle row i p h inside) a in
          let z = Passing.going-more m m₁ k (chain_rows row c.args.helper) m₂ c.post_either.result (either (2 * h) p (slice_index row (i + 1))) b _ w₁ in
          let small = c.in_ok-link.ensures.0 in
          let u = c.saturating_add-next.ensures in
          let e : h + 1 ≡ c.saturating_add-next.result = omega arith in
          let z₁ = subst (λ (n : ℕ). Going m m₂ (chain_rows row c.args.helper) (links (2 * h) (drop (i + 1 + 1) row) n)) e z in
          (c.post_either.ensures.still s₁, subst (λ (y : ℕ). Going m m₂ (chain_rows row c.args.helper) (links y (drop (i + 1 + 1) row) c.saturating_add-next.result)) (sym c.in_ok-link.ensures.1) z₁),
    )

pub returns-clause-passes : goal.returns-clause-passes
returns-clause-passes g c = λ s.
    let row = c.args.row.now in
    let i = c.loop-literal.literal-index in
    let p = c.loop-literal.first in
    let h = c.loop-literal.next in
    let m = g.S.Solver.means c.args.below.now in
    let m₁ = g.S.Solver.means c.loop-literal.below in
    let m₂ = g.S.Solver.means c.post-2.new.self in
    let (k, v) = c.loop-literal.invariant in
    let (s₁, w) = v s in
    let r = p ∷ slice_index row (length row - 2) ∷ slice_index row (length row - 1) ∷ [] in
    let long = c.if-row-le3.false in
    let done : i + 3 ≡ length row = let b = chain.between row long in omega arith in
    let l = chain.last-link row i p h done in
    let w₁ = subst (Going m m₁ (chain_rows row c.args.helper)) l w in
    Passing.going-last m m₁ k (chain_rows row c.args.helper) m₂ c.post-2.result (r ∷ []) (Passing.passes-one m₁ m₂ r c.post-2.result (c.post-2.ensures.posts (inl s₁))) w₁
