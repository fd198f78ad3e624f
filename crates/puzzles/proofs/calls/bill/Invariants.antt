use Rattle.std.proofs.Common.{◌≡◌, ◌++◌}
use Rattle.rows.specs.Bills.{bill_of}
use Rattle.puzzles.specs.Boards.{rows}
use Rattle.puzzles.proofs.calls.bill.Given as goal

-- the counts are the bill of the rows so far
abbrev pub invariant-loop-row : goal.invariant-loop-row
invariant-loop-row g l = record {
  whole : l.yielded ++ l.row-iterator ≡ rows (g.P.Puzzle.board l.puzzle);
  tallied : l.bill.counts ≡ bill_of l.yielded;
}
