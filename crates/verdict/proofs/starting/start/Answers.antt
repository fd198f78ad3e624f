use Rattle.std.proofs.Common.{rules, tests, Some, refl, sym, ap, ◌∙◌}
use Rattle.verdict.proofs.Misfits.{misfit}
use Rattle.verdict.proofs.starting.start.Goals as goal

pub returns-in_default-clause-starts : goal.returns-in_default-clause-starts
returns-in_default-clause-starts g c = (misfit (g.P.Puzzle.board c.args.puzzle.now) (g.S.Solver.means c.args.solver.now) (search (rules, tests)) ∙ ap Some (sym c.here.ensures), refl)
