-- The kinds of rows: their numbers, how long their rows are, and how many true positions make one true.
use Rattle.std.specs.Prelude.{ℕ, ◌+◌, Bool, cond, Some, None, Ok, Err, Option, Result, ◌==◌, nat_le, nat_lt}
use Rattle.std.specs.Option.{unwrap_or}
use Rattle.rows.specs.declared.kinds.Kind.{Kind}
use Rattle.rows.specs.declared.kinds.Kind.TheVariants.{Cover, Clauses, Short, Triples}
use Rattle.rows.specs.declared.stops.Fault.{Fault}
use Rattle.rows.specs.declared.stops.Stop.TheVariants.{Make}
use Rattle.rows.specs.Stops.{here}

-- the most literals that a row of any kind has
abbrev pub longest : ℕ
longest = 16

-- how many lengths there are, from 0 to the longest
abbrev pub lengths : ℕ
lengths = longest + 1

abbrev pub kind_number : Kind → ℕ
kind_number Cover = 1
kind_number Clauses = 2
kind_number Short = 3
kind_number Triples = 4

-- the kind that has a number, if one has
abbrev pub kind_numbered : ℕ → Option Kind
kind_numbered n = cond (n == 1) (Some Cover) (cond (n == 2) (Some Clauses) (cond (n == 3) (Some Short) (cond (n == 4) (Some Triples) None)))

-- the kind of a solver that is made by a number: the kind that has it, or the lowest
abbrev pub made_kind : ℕ → Kind
made_kind n = unwrap_or (kind_numbered n) Cover

-- a kind that is there, else the stop for a number n that no kind has
abbrev pub offered : ℕ → Option Kind → Result Kind Fault
offered n (Some kind) = Ok kind
offered n None = Err (here (Make n))

-- the kind that has a number, or the stop where none has it
abbrev pub kind_or_stop : ℕ → Result Kind Fault
kind_or_stop n = offered n (kind_numbered n)

-- whether rows of a kind may have k literals
abbrev pub has_length : Kind → ℕ → Bool
has_length Cover k = nat_le k longest
has_length Clauses k = nat_le k longest
has_length Short k = nat_le k 3
has_length Triples k = k == 3

-- whether n true positions make a row of a kind true
abbrev pub enough : Kind → ℕ → Bool
enough Cover n = n == 1
enough Clauses n = nat_lt 0 n
enough Short n = nat_lt 0 n
enough Triples n = n == 1
