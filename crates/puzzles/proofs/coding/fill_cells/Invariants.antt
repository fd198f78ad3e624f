use Rattle.std.proofs.Common.{◌≡◌, ℕ, ◌/◌, ◌%◌, ◌<◌, false, eqb, get_or}
use Rattle.puzzles.proofs.coding.fill_cells.Given as goal

-- the variables so far are written
abbrev pub invariant-loop-i : goal.invariant-loop-i
invariant-loop-i l = (k : ℕ) → k < l.i → get_or l.value-items k false ≡ eqb (get_or l.answer (k / l.size) 0) (k % l.size)
