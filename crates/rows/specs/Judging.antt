-- What the judge of a row answers: a verdict on a row over the given values, or the stop that the row meets.
use Rattle.std.specs.Prelude.{ℕ, ◌/◌, Bool, cond, List, length, Some, None, Ok, Err, Option, Result, nat_lt}
use Rattle.rows.specs.declared.kinds.Kind.{Kind}
use Rattle.rows.specs.declared.stops.Fault.{Fault}
use Rattle.rows.specs.declared.stops.Stop.TheVariants.{Row, Literal}
use Rattle.rows.specs.Literals.{truth_of}
use Rattle.rows.specs.Kinds.{has_length}
use Rattle.rows.specs.Stops.{here}
use Rattle.rows.specs.Truth.{valuation, truths, trues, holds, first_wide}

-- the truth of a literal whose variable has a value
abbrev pub truth_in : List Bool → ℕ → Option Bool
truth_in xs l = cond (nat_lt (l / 2) (length xs)) (Some (truth_of (valuation xs) l)) None

-- x where no literal is too wide, else the stop at the first that is
abbrev pub unless_wide : {X : Type 0} → Option ℕ → X → Result X Fault
unless_wide None x = Ok x
unless_wide (Some i) x = Err (here (Literal i))

-- how many positions are true
abbrev pub counted : List Bool → List ℕ → Result ℕ Fault
counted xs row = unless_wide (first_wide (length xs) 0 row) (trues (truths (valuation xs) row))

-- whether a row of a kind is true
abbrev pub judged : Kind → List Bool → List ℕ → Result Bool Fault
judged kind xs row = cond (has_length kind (length row)) (unless_wide (first_wide (length xs) 0 row) (holds kind (valuation xs) row)) (Err (here (Row (length row))))
