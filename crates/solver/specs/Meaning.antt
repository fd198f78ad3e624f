-- What a solver means at a moment.
use Rattle.std.specs.Prelude.{ℕ, Bool, false, cond, List, length, Some, None, Option, nat_lt, slice_index_or}
use Rattle.rows.specs.declared.kinds.Kind.{Kind}
use Rattle.rows.specs.declared.stops.Fault.{Fault}

-- where a reduction meets the solver that it stands on: the solutions above and below
pub record Joint : Type 0 where
  pub above : List Bool → Bool
  pub below : List Bool → Bool

pub record Meaning : Type 0 where
  -- what makes a row true
  pub kind : Kind
  -- by what open refuses so many variables and a bill: None where it takes them
  pub stop : ℕ → List ℕ → Option Fault
  -- how many variables there are
  pub vars : ℕ
  -- the bill of the rows still to be posted
  pub owed : List ℕ
  -- the solutions: the lists of truth values, one for each variable, that make every posted row true
  pub solves : List Bool → Bool
  -- the solutions handed out since the last accepted open or rewind, in order
  pub drawn : List (List Bool)
  -- the latest of them, until a draw says that none is left
  pub current : Option (List Bool)
  -- the joints of a stack, from the top; a final solver has none
  pub joints : List Joint

-- the truth value of variable i in the current solution; absent where none is current or there is no such variable
abbrev pub lookup : Option (List Bool) → ℕ → Option Bool
lookup None i = None
lookup (Some xs) i = cond (nat_lt i (length xs)) (Some (slice_index_or xs i false)) None
