-- When a row is true.
use Rattle.std.specs.Prelude.{ℕ, ◌+◌, ◌/◌, Bool, true, false, cond, ◌&&◌, List, [], ◌∷◌, map, Option, nat_lt, slice_index_or}
use Rattle.rows.specs.declared.kinds.Kind.{Kind}
use Rattle.rows.specs.Firsts.{first_failing}
use Rattle.rows.specs.Literals.{truth_of}
use Rattle.rows.specs.Kinds.{enough}

-- the values that a list of truth values gives to the variables
abbrev pub valuation : List Bool → ℕ → Bool
valuation xs i = slice_index_or xs i false

-- the truth of each position of a row
abbrev pub truths : (ℕ → Bool) → List ℕ → List Bool
truths v row = map (truth_of v) row

-- how many are true: a repeated literal counts once for each position
abbrev pub trues : List Bool → ℕ
trues [] = 0
trues (t ∷ ts) = cond t 1 0 + trues ts

-- whether a row of a kind is true
abbrev pub holds : Kind → (ℕ → Bool) → List ℕ → Bool
holds kind v row = enough kind (trues (truths v row))

-- whether all rows are
abbrev pub all_hold : Kind → (ℕ → Bool) → List (List ℕ) → Bool
all_hold kind v [] = true
all_hold kind v (row ∷ rows) = holds kind v row && all_hold kind v rows

-- the index of the first row that is not true, where the first row has index i
abbrev pub first_false : Kind → (ℕ → Bool) → ℕ → List (List ℕ) → Option ℕ
first_false kind v i rows = first_failing (holds kind v) i rows

-- the position of the first literal of variable n or more, in a row whose first position is i
abbrev pub first_wide : ℕ → ℕ → List ℕ → Option ℕ
first_wide n i row = first_failing (λ l. nat_lt (l / 2) n) i row
