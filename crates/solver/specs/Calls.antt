-- What each call does to the meaning of a solver: m before it, m' after.
use Rattle.std.specs.Prelude.{◌≡◌, ℕ, ◌-◌, Bool, true, ◌&&◌, List, [], ◌∷◌, ◌++◌, length, Some, None, Ok, Err, Result, nat_eq, slice_index, slice_set}
use mathlib.Core.List.{Memᴰ}
use Rattle.rows.specs.declared.stops.Fault.{Fault}
use Rattle.rows.specs.Stops.{Unless}
use Rattle.rows.specs.Truth.{holds, valuation}
use Rattle.solver.specs.declared.draws.Drawn.{Drawn}
use Rattle.solver.specs.declared.draws.Drawn.TheVariants.{Found, Exhausted}
use Rattle.solver.specs.Meaning.{Meaning}
use Rattle.solver.specs.Stops.{draw_stop, post_stop}

-- what no call changes
pub record Kept (m m' : Meaning) : Type 0 where
  pub kind : m'.kind ≡ m.kind
  pub stop : m'.stop ≡ m.stop

-- an accepted open: so many variables, the bill owed, no rows, nothing drawn
pub record Opened (m' : Meaning) (n : ℕ) (bill : List ℕ) : Type 0 where
  pub vars : m'.vars ≡ n
  pub owed : m'.owed ≡ bill
  pub solves : m'.solves ≡ (λ xs. nat_eq (length xs) n)
  pub drawn : m'.drawn ≡ []
  pub current : m'.current ≡ None

abbrev pub Opens : Meaning → Meaning → ℕ → List ℕ → Result (Unit {0}) Fault → Type 0
Opens m m' n bill r = Unless (m.stop n bill) (m' ≡ m) (Opened m' n bill) r

-- an accepted post: one row less of its length is owed, and the solutions are those that make it true
pub record Posted (m m' : Meaning) (row : List ℕ) : Type 0 where
  pub vars : m'.vars ≡ m.vars
  pub owed : m'.owed ≡ slice_set m.owed (length row) (slice_index m.owed (length row) - 1)
  pub solves : m'.solves ≡ (λ xs. m.solves xs && holds m.kind (valuation xs) row)
  pub drawn : m'.drawn ≡ m.drawn
  pub current : m'.current ≡ m.current

abbrev pub Posts : Meaning → Meaning → List ℕ → Result (Unit {0}) Fault → Type 0
Posts m m' row r = Unless (post_stop m.kind m.vars m.owed row) (m' ≡ m) (Posted m m' row) r

-- what a draw leaves
pub record Fixed (m m' : Meaning) : Type 0 where
  pub kind : m'.kind ≡ m.kind
  pub stop : m'.stop ≡ m.stop
  pub vars : m'.vars ≡ m.vars
  pub owed : m'.owed ≡ m.owed

-- a solution is drawn that was not drawn before, which one is free
pub record Drew (m m' : Meaning) : Type 0 where
  pub solves : m'.solves ≡ m.solves
  pub list : List Bool
  pub solution : m.solves list ≡ true
  pub undrawn : Memᴰ list m.drawn → ⊥
  pub drawn : m'.drawn ≡ m.drawn ++ (list ∷ [])
  pub current : m'.current ≡ Some list

-- every solution is drawn
pub record Ended (m m' : Meaning) : Type 0 where
  pub solves : m'.solves ≡ m.solves
  pub all : (xs : List Bool) → m.solves xs ≡ true → Memᴰ xs m.drawn
  pub drawn : m'.drawn ≡ m.drawn
  pub current : m'.current ≡ None

abbrev pub Draws : Meaning → Meaning → Result Drawn Fault → Type 0
Draws m m' (Ok Found) = (draw_stop m.owed ≡ None) × Drew m m'
Draws m m' (Ok Exhausted) = (draw_stop m.owed ≡ None) × Ended m m'
Draws m m' (Err f) = (draw_stop m.owed ≡ Some f) × (m' ≡ m)

-- after a rewind nothing is drawn and nothing is current
abbrev pub rewound : Meaning → Meaning
rewound m = record { kind = m.kind; stop = m.stop; vars = m.vars; owed = m.owed; solves = m.solves; drawn = []; current = None; joints = m.joints }
