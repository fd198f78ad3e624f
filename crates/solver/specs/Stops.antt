-- By which stops a solver refuses a row and a draw.
use Rattle.std.specs.Prelude.{ℕ, not, List, length, Option, ◌==◌, slice_index}
use Rattle.std.specs.Option.{option_map}
use Rattle.rows.specs.declared.kinds.Kind.{Kind}
use Rattle.rows.specs.declared.stops.Fault.{Fault}
use Rattle.rows.specs.declared.stops.Stop.TheVariants.{Row, Literal, Bill, Owed}
use Rattle.rows.specs.Bills.{shortest}
use Rattle.rows.specs.Kinds.{has_length}
use Rattle.rows.specs.Stops.{here, stop_if, ◌then_if◌}
use Rattle.rows.specs.Truth.{first_wide}

-- a row posted to a solver of a kind with n variables that is owed a bill: its length is one of the kind, its literals are of
-- these variables, and a row of its length is owed
abbrev pub post_stop : Kind → ℕ → List ℕ → List ℕ → Option Fault
post_stop kind n owed row =
    stop_if (not (has_length kind (length row))) (Row (length row))
    then_if option_map (λ i. here (Literal i)) (first_wide n 0 row)
    then_if stop_if (slice_index owed (length row) == 0) (Bill (length row))

-- a draw: nothing is owed
abbrev pub draw_stop : List ℕ → Option Fault
draw_stop owed = option_map (λ k. here (Owed k)) (shortest owed)
