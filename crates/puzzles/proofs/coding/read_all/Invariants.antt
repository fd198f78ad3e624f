use Rattle.std.proofs.Common.{◌≡◌, ℕ, ◌*◌, ◌<◌, get_or, not, take, drop}
use Rattle.std.specs.List.{prefix_len}
use Rattle.puzzles.proofs.coding.read_all.Given as goal

-- the values so far are written
abbrev pub invariant-loop-place : goal.invariant-loop-place
invariant-loop-place g l = (p : ℕ) → p < l.place → get_or l.value-items p 0 ≡ prefix_len not (take l.size (drop (p * l.size) l.values))
