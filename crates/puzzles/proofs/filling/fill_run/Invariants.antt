use Rattle.std.proofs.Common.{◌≡◌}
use Rattle.puzzles.specs.Filling.{run_of}
use Rattle.puzzles.proofs.filling.fill_run.Given as goal

-- the row is the run so far
abbrev pub invariant-loop-k : goal.invariant-loop-k
invariant-loop-k l = l.row ≡ run_of l.start l.step l.k
