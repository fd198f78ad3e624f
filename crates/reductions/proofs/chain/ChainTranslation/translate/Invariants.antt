use Rattle.std.proofs.Common.{◌+◌, drop}
use Rattle.solver.specs.Calls.{Kept}
use Rattle.reductions.specs.Translations.{chain_rows, links}
use Rattle.reductions.proofs.Passing.{Going}
use Rattle.reductions.proofs.chain.ChainTranslation.translate.Given as goal

abbrev pub invariant-loop-literal : goal.invariant-loop-literal
invariant-loop-literal g l =
    let m = g.S.Solver.means l.fn.below in
    let m' = g.S.Solver.means l.below in
    Kept m m' × (g.S.Solver.sound l.fn.below → g.S.Solver.sound l.below × Going m m' (chain_rows l.row l.helper) (links l.first (drop (l.literal-index + 1) l.row) l.next))
