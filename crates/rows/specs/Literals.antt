-- Literals as numbers: 2 * v says that variable v is true, 2 * v + 1 that it is false.
use Rattle.std.specs.Prelude.{ℕ, ◌+◌, ◌-◌, ◌/◌, ◌%◌, Bool, cond, not, ◌==◌}

-- how many variables a solver has at most
abbrev pub within : ℕ
within = 32768

-- the truth of a literal when v gives the variables their values
unfoldable pub truth_of : (ℕ → Bool) → ℕ → Bool
truth_of v l = cond (l % 2 == 0) (v (l / 2)) (not (v (l / 2)))

-- the other literal of the same variable
unfoldable pub opposite : ℕ → ℕ
opposite l = cond (l % 2 == 0) (l + 1) (l - 1)
