-- What every solver promises, said of a history of calls and answers alone. The kind of a solver, and by what it refuses opens, are fixed
-- when it is made.
use Rattle.std.specs.Prelude.{◌≡◌, ℕ, Bool, true, ◌&&◌, List, ◌∷◌, ◌++◌, length, Some, None, Option, ◌==◌}
use mathlib.Core.List.{Memᴰ}
use Rattle.std.specs.List.{All, zip}
use Rattle.rows.specs.declared.kinds.Kind.{Kind}
use Rattle.rows.specs.declared.stops.Fault.{Fault}
use Rattle.rows.specs.Bills.{shortest}
use Rattle.rows.specs.Truth.{all_hold, valuation}
use Rattle.solver.specs.Calls.{Kept}
use Rattle.solver.specs.Laws.{Apart, Chained, Fresh, Limited, OneToOne}
use Rattle.solver.specs.Meaning.{Meaning, lookup}
use Rattle.solver.specs.Stops.{draw_stop, post_stop}
use Rattle.history.specs.declared.calls.Call.{Call}
use Rattle.history.specs.declared.calls.Call.TheVariants.{Open, Post, Next, Value, Rewind}
use Rattle.history.specs.declared.calls.Answer.{Answer}
use Rattle.history.specs.declared.calls.Answer.TheVariants.{Accepted, Refused, Found, Exhausted, Valued}
use Rattle.history.specs.Histories.{Moment, current, drawn, opened, owed, posted}
use Rattle.history.specs.Performing.{Performed}

-- the solutions after a history: the lists of a truth value for each variable that make every posted row true
abbrev pub solution : Kind → List Moment → List Bool → Bool
solution kind h xs = length xs == (opened h).vars && all_hold kind (valuation xs) (posted h)

-- by what a call after a history is refused
abbrev pub refusal : Kind → (ℕ → List ℕ → Option Fault) → List Moment → Call → Option Fault
refusal kind stop h (Open n bill) = stop n bill.counts
refusal kind stop h (Post row) = post_stop kind (opened h).vars (owed h) row.now
refusal kind stop h Next = draw_stop (owed h)
refusal kind stop h (Value i) = None
refusal kind stop h Rewind = None

-- a call is answered in its own words, and refused by a fault or by none
abbrev pub Answers : Option Fault → Call → Answer → Type 0
Answers f c (Refused g) = f ≡ Some g
Answers f (Open n bill) Accepted = f ≡ None
Answers f (Post row) Accepted = f ≡ None
Answers f Next (Found xs) = f ≡ None
Answers f Next Exhausted = f ≡ None
Answers f (Value i) (Valued x) = f ≡ None
Answers f Rewind Accepted = f ≡ None
Answers f c a = ⊥

-- every solution was drawn since the latest making, accepted open or rewind
abbrev pub AllDrawn : Kind → List Moment → Type 0
AllDrawn kind h = (xs : List Bool) → solution kind h xs ≡ true → Memᴰ xs (drawn h)

-- what holds of a whole history, at every moment of it and of every front
pub record Promised (kind : Kind) (stop : ℕ → List ℕ → Option Fault) (h : List Moment) : Type 0 where
  -- each call is refused exactly where the stops say, by that stop, and is answered in its own words
  pub stops : (before after : List Moment) (c : Call) (a : Answer) → h ≡ before ++ ((c, a) ∷ after) → Answers (refusal kind stop before c) c a
  -- each list drawn makes each posted row true, and no two are equal
  pub sure : (front after : List Moment) → h ≡ front ++ after → All (λ xs. solution kind front xs ≡ true) (drawn front)
  pub apart : (front after : List Moment) → h ≡ front ++ after → Apart (drawn front)
  -- value answers from the current list
  pub values : (before after : List Moment) (i : ℕ) (a : Answer) → h ≡ before ++ ((Value i, a) ∷ after) → a ≡ Valued (lookup (current before) i)
  -- next says none only when no row is owed and every solution was drawn
  pub none : (before after : List Moment) → h ≡ before ++ ((Next, Exhausted) ∷ after) → (shortest (owed before) ≡ None) × AllDrawn kind before
  -- and says so always then
  pub always : (before after : List Moment) (a : Answer) → h ≡ before ++ ((Next, a) ∷ after) → shortest (owed before) ≡ None → AllDrawn kind before → a ≡ Exhausted

-- what a solver means after a history is what the history says
pub record Tells (h : List Moment) (m : Meaning) : Type 0 where
  pub vars : m.vars ≡ (opened h).vars
  pub owed : m.owed ≡ owed h
  pub solves : (xs : List Bool) → m.solves xs ≡ solution m.kind h xs
  pub drawn : m.drawn ≡ drawn h
  pub current : m.current ≡ current h

-- and while no row is owed, each solution above each joint extends to exactly one below
abbrev pub Matched : List Moment → Meaning → Type 0
Matched h m = shortest (owed h) ≡ None → All OneToOne m.joints

-- of a newly made solver: what is promised of calls and their answers, where it means m' after them
pub record Complete (calls : List Call) (given : List Answer) (m m' : Meaning) : Type 0 where
  pub promised : Promised m.kind m.stop (zip calls given)
  -- an open that is refused is refused by one of two stops, and what is taken is within the limits
  pub limited : Limited m
  pub tells : Tells (zip calls given) m'
  pub chained : Chained m'.solves m'.joints
  pub matched : Matched (zip calls given) m'

-- what a list of calls was answered: a solver meant m before and means m' after them
pub record Replayed (sound : Type 0) (calls : List Call) (given : List Answer) (m m' : Meaning) : Type 0 where
  -- each call has its answer
  pub whole : length given ≡ length calls
  pub kept : Kept m m'
  -- a solver whose promises hold has performed them one after another
  pub performed : sound → Performed m calls given m'
  -- and one that is newly made has answered as a complete solver does
  pub complete : sound → Fresh m → Complete calls given m m'
