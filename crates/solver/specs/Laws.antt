-- What holds of every solver, and of one that is sound: newly made, or opened since.
use Rattle.std.specs.Prelude.{◌≡◌, ℕ, ◌≤◌, Bool, true, ◌⊎◌, List, [], ◌∷◌, ◌++◌, length, take, replicate, Some, None, nat_eq}
use mathlib.Core.List.{Memᴰ}
use Rattle.std.specs.List.{All}
use Rattle.rows.specs.declared.stops.Fault.{Fault}
use Rattle.rows.specs.declared.stops.Stop.TheVariants.{Joint as Unfit, Big}
use Rattle.rows.specs.Bills.{counts_within, shortest}
use Rattle.rows.specs.Kinds.{lengths}
use Rattle.rows.specs.Literals.{within}
use Rattle.solver.specs.Meaning.{Joint, Meaning}

-- each solution above a joint extends to exactly one below, which begins with it
pub record OneToOne (j : Joint) : Type 0 where
  pub extends : (xs : List Bool) → j.above xs ≡ true → (ys : List Bool) × (j.below ys ≡ true) × (take (length xs) ys ≡ xs)
  pub only : (xs ys zs : List Bool) → j.above xs ≡ true → j.below ys ≡ true → j.below zs ≡ true → take (length xs) ys ≡ xs → take (length xs) zs ≡ xs → ys ≡ zs

-- the joints of a stack hang together: the topmost is where its own solutions stand above, and each other where those below the one
-- before do
abbrev pub Chained : (List Bool → Bool) → List Joint → Type 0
Chained solves [] = Unit {0}
Chained solves (j ∷ js) = (j.above ≡ solves) × Chained j.below js

-- no two of a list are equal
abbrev pub Apart : {X : Type 0} → List X → Type 0
Apart [] = Unit {0}
Apart (x ∷ xs) = (Memᴰ x xs → ⊥) × Apart xs

-- no row is owed
abbrev pub Ready : Meaning → Type 0
Ready m = shortest m.owed ≡ None

-- a solution is the last of the drawn
abbrev pub Last : List Bool → List (List Bool) → Type 0
Last xs drawn = (earlier : List (List Bool)) × (drawn ≡ earlier ++ (xs ∷ []))

-- what is taken is within the limits, and what is not is refused by one of two stops
pub record Limited (m : Meaning) : Type 0 where
  pub taken : (n : ℕ) (bill : List ℕ) → m.stop n bill ≡ None → (n ≤ within) × (counts_within m.kind 0 bill ≡ true)
  pub refused : (n : ℕ) (bill : List ℕ) (f : Fault) → m.stop n bill ≡ Some f → (f.stop ≡ Unfit) ⊎ (f.stop ≡ Big)

pub record Lawful (m : Meaning) : Type 0 where
  -- a solution has a value for each variable
  pub sized : (xs : List Bool) → m.solves xs ≡ true → length xs ≡ m.vars
  pub narrow : m.vars ≤ within
  -- what is drawn is a solution
  pub sure : All (λ xs. m.solves xs ≡ true) m.drawn
  -- and is drawn once
  pub apart : Apart m.drawn
  -- nothing is drawn while a row is owed
  pub waits : (k : ℕ) → shortest m.owed ≡ Some k → m.drawn ≡ []
  -- what is current was drawn last
  pub last : (xs : List Bool) → m.current ≡ Some xs → Last xs m.drawn
  -- the joints are those of its solutions
  pub chained : Chained m.solves m.joints
  -- and while no row is owed, every one matches solutions one to one
  pub matched : Ready m → All OneToOne m.joints

-- newly made: no variables and no rows, so that the empty list is the one solution, and nothing is drawn
pub record Fresh (m : Meaning) : Type 0 where
  pub vars : m.vars ≡ 0
  pub owed : m.owed ≡ replicate lengths 0
  pub solves : m.solves ≡ (λ xs. nat_eq (length xs) 0)
  pub drawn : m.drawn ≡ []
  pub current : m.current ≡ None
