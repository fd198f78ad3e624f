use Rattle.solver.specs.Calls.{Kept}
use Rattle.verdict.proofs.Posting.{Posting}
use Rattle.verdict.proofs.starting.post_rows.Given as goal

-- the rows so far are posted to a solver that is still sound
abbrev pub invariant-loop-row : goal.invariant-loop-row
invariant-loop-row g l = record {
  posting : Posting (g.P.Puzzle.board l.puzzle) l.yielded l.row-iterator (g.S.Solver.means l.solver);
  kept : Kept (g.S.Solver.means l.initial.solver) (g.S.Solver.means l.solver);
  sound : g.S.Solver.sound l.solver;
}
