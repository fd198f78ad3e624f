use Rattle.std.proofs.Common.{drop}
use Rattle.solver.specs.Calls.{Kept}
use Rattle.reductions.specs.Translations.{not_with}
use Rattle.reductions.proofs.Passing.{Going}
use Rattle.reductions.proofs.pairs.post_not_with.Given as goal

abbrev pub invariant-loop-other : goal.invariant-loop-other
invariant-loop-other g l =
    let m = g.S.Solver.means l.fn.below in
    let m' = g.S.Solver.means l.below in
    Kept m m' × (g.S.Solver.sound l.fn.below → g.S.Solver.sound l.below × Going m m' (not_with l.literal l.others) (not_with l.literal (drop l.other-index l.others)))
