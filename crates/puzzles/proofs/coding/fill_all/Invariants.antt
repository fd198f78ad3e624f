use Rattle.std.proofs.Common.{◌≡◌, ◌++◌, length}
use Rattle.puzzles.proofs.SlackSteps.{filled}
use Rattle.puzzles.specs.Boards.{rows}
use Rattle.puzzles.proofs.coding.fill_all.Given as goal

-- the board variables are filled, and the slacks of the rows so far
abbrev pub invariant-loop-row : goal.invariant-loop-row
invariant-loop-row g l = record {
  whole : l.yielded ++ l.row-iterator ≡ rows (g.P.Puzzle.board l.puzzle);
  filled_so_far : l.values ≡ filled (g.P.Puzzle.board l.puzzle) l.answer l.initial.values (length l.yielded);
}
