-- What a reduction upon a solver means, and what it keeps true of the solver below.
use Rattle.std.specs.Prelude.{◌≡◌, ℕ, ◌+◌, ◌-◌, ◌/◌, ◌<◌, ◌≤◌, Bool, true, false, ◌&&◌, ◌||◌, not, List, [], ◌∷◌, ◌++◌, map, length, take, zero, suc, Some, None, Err, Option, Result, is_ok, ◌==◌, slice_index}
use Rattle.std.specs.Option.{option_map}
use Rattle.std.specs.List.{All}
use Rattle.rows.specs.declared.stops.Fault.{Fault}
use Rattle.rows.specs.declared.stops.Stop.TheVariants.{Joint as Unfit}
use Rattle.rows.specs.Kinds.{has_length, kind_number}
use Rattle.rows.specs.Stops.{deeper, stop_if, ◌then_if◌}
use Rattle.rows.specs.Truth.{all_hold, valuation}
use Rattle.solver.specs.declared.draws.Drawn.{Drawn}
use Rattle.solver.specs.Stops.{draw_stop}
use Rattle.solver.specs.Meaning.{Meaning}
use Rattle.reductions.specs.declared.reduced.Reduced.{Reduced}
use Rattle.reductions.specs.Bills.{bill_below, helped, less, occurs, own_stop}
use Rattle.reductions.specs.Rules.{Rule, gives}

-- the kind below does not fit; then the limits of the reduction's own kind; then what the solver below does not take
abbrev pub joint_stop : Rule → Meaning → ℕ → List ℕ → Option Fault
joint_stop t m n bill =
    stop_if (not (kind_number m.kind == kind_number t.below)) Unfit
    then_if own_stop t n bill
    then_if option_map deeper (m.stop (n + helped t 0 bill) (bill_below t bill))

-- whether f passes at some list of k truth values
abbrev pub any_ending : ℕ → (List Bool → Bool) → Bool
any_ending zero f = f []
any_ending (suc k) f = any_ending k (λ xs. f (true ∷ xs)) || any_ending k (λ xs. f (false ∷ xs))

-- the solutions above: lists of n values that some ending makes solutions below
abbrev pub solves_above : ℕ → Meaning → List Bool → Bool
solves_above n m xs = length xs == n && any_ending (m.vars - n) (λ hs. m.solves (xs ++ hs))

-- a reduction of n variables that is owed a bill, upon a solver of meaning m
abbrev pub reduced : Rule → ℕ → List ℕ → Meaning → Meaning
reduced t n bill m = record {
  kind = t.above;
  stop = joint_stop t m;
  vars = n;
  owed = bill;
  solves = solves_above n m;
  drawn = map (take n) m.drawn;
  current = option_map (take n) m.current;
  joints = (record { above = solves_above n m; below = m.solves }) ∷ m.joints;
}

-- a solution below is: the test A of the first n of its values, and the values E of the helpers after those
abbrev pub Follows : ℕ → ℕ → (List Bool → Bool) → (List Bool → Bool) → (List Bool → List Bool) → Type 0
Follows n vars below A E = (ys : List Bool) → length ys ≡ vars → below ys ≡ (A (take n ys) && gives (valuation ys) n (E (take n ys)))

-- what a reduction of n variables, whose next helper is h and that is owed a bill, keeps true of the meaning m below
pub record Joined (t : Rule) (n h : ℕ) (bill : List ℕ) (m : Meaning) : Type 0 where
  -- open has seen to it, so a newly made joint need not fit
  pub kind : (k : ℕ) → 0 < slice_index bill k → m.kind ≡ t.below
  pub owed : m.owed ≡ bill_below t bill
  -- while a row is owed nothing is drawn
  pub waits : (k : ℕ) → 0 < slice_index bill k → m.drawn ≡ []
  -- the helpers still to come have their numbers behind those that were given
  pub vars : m.vars ≡ h + helped t 0 bill
  pub low : n ≤ h
  -- the test of the rows posted so far, and the values of their helpers
  pub test : List Bool → Bool
  pub values : List Bool → List Bool
  pub size : (xs : List Bool) → length xs ≡ n → n + length (values xs) ≡ h
  pub follows : Follows n m.vars m.solves test values

-- of a reduction in code: what it means, and whether it is sound, by what its translation and the solver below say of themselves
module _ {T S : Type 0} (rule : T → Rule) (means : S → Meaning) where
  abbrev pub meaning : Reduced T S → Meaning
  meaning r = reduced (rule r.rule) r.vars r.owed.counts (means r.below)

  abbrev pub Upheld : (S → Type 0) → Reduced T S → Type 0
  Upheld sound r = sound r.below × Joined (rule r.rule) r.vars r.helper r.owed.counts (means r.below)

-- rows that were posted below, all accepted
pub record Passed (m m' : Meaning) (rows : List (List ℕ)) : Type 0 where
  pub vars : m'.vars ≡ m.vars
  pub owed : m'.owed ≡ less (map length rows) m.owed
  pub solves : (ys : List Bool) → m'.solves ys ≡ (m.solves ys && all_hold m.kind (valuation ys) rows)
  pub drawn : m'.drawn ≡ m.drawn
  pub current : m'.current ≡ m.current

-- a solver of meaning m takes these rows, one after another
pub record Takes (m : Meaning) (rows : List (List ℕ)) : Type 0 where
  pub long : All (λ row. has_length m.kind (length row) ≡ true) rows
  pub wide : All (All (λ l. l / 2 < m.vars)) rows
  pub room : (l : ℕ) → occurs l (map length rows) ≤ slice_index m.owed l

-- rows were posted: those that are taken are all accepted
abbrev pub Passes : Meaning → Meaning → List (List ℕ) → Result (Unit {0}) Fault → Type 0
Passes m m' rows r = Takes m rows → (is_ok r ≡ true) × Passed m m' rows

-- the rows that a row becomes stand below, in order and with the next helpers, h of them before and h' after
pub record Carried (t : Rule) (row : List ℕ) (h h' : ℕ) (m m' : Meaning) : Type 0 where
  pub rows : Passed m m' (t.rows row h)
  pub next : h' ≡ h + t.helpers (length row)

-- a draw is refused exactly where the reduction is owed a row, or the solver below refuses it: then that fault is carried up
abbrev pub draw_refused : List ℕ → Meaning → Option Fault
draw_refused owed m = draw_stop owed then_if option_map deeper (draw_stop m.owed)

abbrev pub Refuses : Option Fault → Result Drawn Fault → Type 0
Refuses None r = is_ok r ≡ true
Refuses (Some f) r = r ≡ Err f
