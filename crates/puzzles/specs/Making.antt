-- Making a puzzle of a size and entries: what can be made, how the rest is refused, and what is left behind.
use Rattle.std.specs.Prelude.{◌≡◌, ℕ, Bool, not, ◌&&◌, List, length, Some, None, Option, Result, nat_le, nat_lt}
use Rattle.std.specs.List.{list_all}
use Rattle.rows.specs.declared.stops.Fault.{Fault}
use Rattle.rows.specs.declared.stops.Stop.TheVariants.{Size, Count, Entry}
use Rattle.rows.specs.Firsts.{first_failing}
use Rattle.rows.specs.Stops.{Unless, here, stop_if, ◌then_if◌}

-- how many entries a puzzle has at most
abbrev pub most_entries : ℕ
most_entries = 256

-- what a puzzle is made of
pub record Setup (X : Type 0) : Type 0 where
  pub size : ℕ
  pub entries : List X

abbrev pub setup : {X : Type 0} → ℕ → List X → Setup X
setup n xs = record { size = n; entries = xs }

-- a size from the least to the largest, no more than the most entries, and each of them in range
abbrev pub makeable : {X : Type 0} → ℕ → ℕ → (X → Bool) → ℕ → List X → Bool
makeable least largest fits n xs = nat_le least n && (nat_le n largest && (nat_le (length xs) most_entries && list_all fits xs))

-- the stops of a size n and k entries
abbrev pub limits_stop : ℕ → ℕ → ℕ → ℕ → Option Fault
limits_stop least largest n k = stop_if (not (nat_le least n && nat_le n largest)) (Size n) then_if stop_if (nat_lt most_entries k) (Count k)

-- a stop at the first entry out of range, if there is one
abbrev pub entry_stop : Option ℕ → Option Fault
entry_stop None = None
entry_stop (Some i) = Some (here (Entry i))

-- the size, then the number of entries, then each entry
abbrev pub make_stop : {X : Type 0} → ℕ → ℕ → (X → Bool) → ℕ → List X → Option Fault
make_stop least largest fits n xs = limits_stop least largest n (length xs) then_if entry_stop (first_failing fits 0 xs)

-- to make a puzzle: refused and left as it was, or made of what was asked for
abbrev pub Makes : {X : Type 0} → ℕ → ℕ → (X → Bool) → Setup X → Setup X → ℕ → List X → Result (Unit {0}) Fault → Type 0
Makes least largest fits before after n xs r = Unless (make_stop least largest fits n xs) (after ≡ before) (after ≡ setup n xs) r
