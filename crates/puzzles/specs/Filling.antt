-- Rows of variables that are filled from the front.
use Rattle.std.specs.Prelude.{ℕ, ◌+◌, ◌-◌, ◌*◌, Bool, cond, ◌&&◌, ◌||◌, List, [], ◌∷◌, ◌++◌, map, length, Some, None, Option, nat_eq, nat_le, nat_lt}
use Rattle.std.specs.List.{range_with_len}
use Rattle.rows.specs.Kinds.{longest}
use Rattle.rows.specs.Literals.{within}

-- a row with one variable more, if it has room and the variable is within the limit
abbrev pub extended : List ℕ → ℕ → Option (List ℕ)
extended row v = cond (nat_lt v within && nat_lt (length row) longest) (Some (row ++ (2 * v) ∷ [])) None

-- the literals of `count` variables from `start` on, each `step` after the one before
abbrev pub run_of : ℕ → ℕ → ℕ → List ℕ
run_of start step count = map (λ k. 2 * (start + k * step)) (range_with_len 0 count)

-- whether they make a row: no more than the longest row has, and the last variable, if there is one, within the limit
abbrev pub run_fits : ℕ → ℕ → ℕ → Bool
run_fits start step count = nat_le count longest && (nat_eq count 0 || nat_lt (start + (count - 1) * step) within)

-- that row, where they do
abbrev pub run_row : ℕ → ℕ → ℕ → Option (List ℕ)
run_row start step count = cond (run_fits start step count) (Some (run_of start step count)) None
