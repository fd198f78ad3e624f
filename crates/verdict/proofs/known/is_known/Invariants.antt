use Rattle.std.proofs.Common.{◌≡◌, Bool, true, false, List, take, Some}
use Rattle.puzzles.specs.Boards.{decode, solution}
use Rattle.verdict.specs.Verdicts.{among, known_answers}
use Rattle.verdict.proofs.known.is_known.Given as goal

-- the current solution is that of none of the answers so far
abbrev pub invariant-loop-index : goal.invariant-loop-index
invariant-loop-index g l =
    let b = g.P.Puzzle.board l.puzzle in
    (xs : List Bool) → (g.S.Solver.means l.solver).current ≡ Some xs → solution b xs ≡ true → among (decode b xs) (take l.index (known_answers b.places l.known)) ≡ false
