use Rattle.std.proofs.Common.{◌≡◌, ℕ, ◌<◌, Bool, true, List, get_or, Some}
use Rattle.puzzles.specs.Boards.{decode, solution}
use Rattle.verdict.proofs.reading.read_answer.Given as goal

-- the values of the current solution so far are written
abbrev pub invariant-loop-place : goal.invariant-loop-place
invariant-loop-place g l =
    let b = g.P.Puzzle.board l.puzzle in
    (xs : List Bool) → (g.S.Solver.means l.solver).current ≡ Some xs → solution b xs ≡ true → (p : ℕ) → p < l.place → get_or l.value-items p 0 ≡ get_or (decode b xs) p 0
