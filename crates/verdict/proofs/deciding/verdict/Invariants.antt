use Rattle.std.proofs.Common.{◌≡◌, ◌+◌, ◌-◌, length}
use Rattle.solver.specs.Calls.{Kept}
use Rattle.verdict.specs.Verdicts.{known_answers}
use Rattle.verdict.proofs.Asking.{Asking}
use Rattle.verdict.proofs.deciding.verdict.Given as goal

-- the solutions of known answers alone are drawn from a solver that is still sound, and the buffer is as it was
abbrev pub invariant-loop-drawn : goal.invariant-loop-drawn
invariant-loop-drawn g l =
    let b = g.P.Puzzle.board l.puzzle in
    Asking b (known_answers b.places l.known) l.draws (g.S.Solver.means l.solver)
    × Kept (g.S.Solver.means l.initial.solver) (g.S.Solver.means l.solver)
    × g.S.Solver.sound l.solver
    × (l.answer ≡ l.initial.answer)

-- one draw more than there are known answers
abbrev pub decreases-loop-drawn : goal.decreases-loop-drawn
decreases-loop-drawn g l = length (known_answers (g.P.Puzzle.board l.puzzle).places l.known) + 1 - l.draws
