-- The first element of a list that fails a test.
use Rattle.std.specs.Prelude.{◌≡◌, ℕ, ◌+◌, ◌<◌, Bool, true, false, cond, List, [], ◌∷◌, length, take, Some, None, Option}
use Rattle.std.specs.List.{HoldsAt, All}

-- its index, where the first element of the list has index i
abbrev pub first_failing : {X : Type 0} → (X → Bool) → ℕ → List X → Option ℕ
first_failing test i [] = None
first_failing test i (x ∷ xs) = cond (test x) (first_failing test (i + 1) xs) (Some i)

-- what an answer says: none fails; or the one of this index does, and none before it
abbrev pub First : {X : Type 0} → (X → Bool) → List X → Option ℕ → Type 0
First test xs None = All (λ x. test x ≡ true) xs
First test xs (Some i) = (i < length xs) × HoldsAt (λ x. test x ≡ false) xs i × All (λ x. test x ≡ true) (take i xs)
