use Rattle.std.proofs.Common.{◌+◌, [], ◌∷◌, drop, is_ok, slice_index, inl, ap, subst}
use Rattle.reductions.specs.Joints.{Passes}
use Rattle.reductions.specs.Translations.{not_both, not_with}
use Rattle.reductions.proofs.PairsPosting.{behind, not-both-at}
use Rattle.reductions.proofs.Passing
use Rattle.reductions.proofs.Passing.{Going}
use Rattle.reductions.proofs.pairs.PairsTranslation.translate.Goals as goal

pub returns-in_err-post-clause-passes : goal.returns-in_err-post-clause-passes
returns-in_err-post-clause-passes g c = λ s.
    let row = c.args.row.now in
    let m = g.S.Solver.means c.args.below.now in
    let m₁ = g.S.Solver.means c.post.new.self in
    Passing.going-stop m m (Passing.kept-same m) (row ∷ not_both row) m₁ c.post.result (row ∷ []) (Passing.passes-one m m₁ row c.post.result (c.post.ensures.posts (inl s))) (not_both row) (Passing.going-start m (row ∷ not_both row)) (ap is_ok c.in_err-post.was) c.from_residual.result

pub loop-position-init : goal.loop-position-init
loop-position-init g c =
    let row = c.args.row.now in
    let m = g.S.Solver.means c.args.below.now in
    let m₁ = g.S.Solver.means c.post.new.self in
    (c.post.ensures.kept, λ s. (c.post.ensures.still s, Passing.going-more m m (Passing.kept-same m) (row ∷ not_both row) m₁ c.post.result (row ∷ []) (Passing.passes-one m m₁ row c.post.result (c.post.ensures.posts (inl s))) (not_both row) (Passing.going-start m (row ∷ not_both row))))

pub returns-in_err-post_not_with-clause-passes : goal.returns-in_err-post_not_with-clause-passes
returns-in_err-post_not_with-clause-passes g c = λ s.
    let row = c.args.row.now in
    let i = c.loop-position.position in
    let m = g.S.Solver.means c.args.below.now in
    let m₁ = g.S.Solver.means c.loop-position.below in
    let m₂ = g.S.Solver.means c.post_not_with.new.below in
    let (k, v) = c.loop-position.invariant in
    let (s₁, w) = v s in
    let w₁ = subst (Going m m₁ (row ∷ not_both row)) (not-both-at row i c.loop-position-test.true) w in
    Passing.going-stop m m₁ k (row ∷ not_both row) m₂ c.post_not_with.result (not_with (slice_index row i) (drop (i + 1) row)) (subst (λ xs. Passes m₁ m₂ (not_with (slice_index row i) xs) c.post_not_with.result) (behind row (i + 1)) (c.post_not_with.ensures.passes s₁)) (not_both (drop (i + 1) row)) w₁ (ap is_ok c.in_err-post_not_with.was) c.from_residual-in_err-post_not_with.result

pub loop-position-preserved : goal.loop-position-preserved
loop-position-preserved g c =
    let row = c.args.row.now in
    let i = c.loop-position.position in
    let m = g.S.Solver.means c.args.below.now in
    let m₁ = g.S.Solver.means c.loop-position.below in
    let m₂ = g.S.Solver.means c.post_not_with.new.below in
    let (k, v) = c.loop-position.invariant in (
      Passing.kept-then m m₁ m₂ k c.post_not_with.ensures.kept,
      λ s.
          let (s₁, w) = v s in
          let w₁ = subst (Going m m₁ (row ∷ not_both row)) (not-both-at row i c.loop-position-test.true) w in
          (c.post_not_with.ensures.still s₁, Passing.going-more m m₁ k (row ∷ not_both row) m₂ c.post_not_with.result (not_with (slice_index row i) (drop (i + 1) row)) (subst (λ xs. Passes m₁ m₂ (not_with (slice_index row i) xs) c.post_not_with.result) (behind row (i + 1)) (c.post_not_with.ensures.passes s₁)) (not_both (drop (i + 1) row)) w₁),
    )
