use Rattle.std.proofs.Common.{◌≡◌, ◌++◌, map}
use Rattle.rows.specs.Truth.{first_false, valuation}
use Rattle.rows.specs.declared.kinds.Kind.TheVariants.{Cover}
use Rattle.puzzles.specs.Boards.{rows}
use Rattle.puzzles.proofs.calls.first_false.Given as goal

-- the rows so far are true
abbrev pub invariant-loop-i : goal.invariant-loop-i
invariant-loop-i g l = record {
  whole : map (λ t. t.1) l.yielded ++ l.i-iterator.iter ≡ rows (g.P.Puzzle.board l.puzzle);
  passed : first_false Cover (valuation l.values) 0 (rows (g.P.Puzzle.board l.puzzle)) ≡ first_false Cover (valuation l.values) l.i-iterator.count l.i-iterator.iter;
}
