use Rattle.std.proofs.Common.{sym, subst, arith}
use Rattle.reductions.specs.Joints.{Passes}
use Rattle.reductions.proofs.TriplesPosting.{of-one, of-two}
use Rattle.reductions.proofs.triples.TriplesTranslation.translate.Goals as goal

pub returns-in-len1-clause-passes : goal.returns-in-len1-clause-passes
returns-in-len1-clause-passes g c = λ s.
    let m = g.S.Solver.means c.args.below.now in
    let m' = g.S.Solver.means c.post_pair.new.below in
    subst (λ rows. Passes m m' rows c.post_pair.result) (sym (of-one c.args.row.now c.args.helper (omega arith))) (c.post_pair.ensures.passes s)

pub returns-in-len2-clause-passes : goal.returns-in-len2-clause-passes
returns-in-len2-clause-passes g c = λ s.
    let m = g.S.Solver.means c.args.below.now in
    let m' = g.S.Solver.means c.post_pair-in-len2.new.below in
    subst (λ rows. Passes m m' rows c.post_pair-in-len2.result) (sym (of-two c.args.row.now c.args.helper (omega arith))) (c.post_pair-in-len2.ensures.passes s)
