use Rattle.std.proofs.Common.{◌∷◌, drop}
use Rattle.solver.specs.Calls.{Kept}
use Rattle.reductions.specs.Translations.{not_both}
use Rattle.reductions.proofs.Passing.{Going}
use Rattle.reductions.proofs.pairs.PairsTranslation.translate.Given as goal

abbrev pub invariant-loop-position : goal.invariant-loop-position
invariant-loop-position g l =
    let m = g.S.Solver.means l.fn.below in
    let m' = g.S.Solver.means l.below in
    Kept m m' × (g.S.Solver.sound l.fn.below → g.S.Solver.sound l.below × Going m m' (l.row ∷ not_both l.row) (not_both (drop l.position l.row)))
