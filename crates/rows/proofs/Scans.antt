-- The first that fails is what it is called: it fails, and none before it does.
use Rattle.std.specs.List.{position, position_from}
use Rattle.std.proofs.lemmas.Iterator.Adapters.{position_from-zero}
use Rattle.std.proofs.Common.{not, sym, refl, ◌≡◌, ℕ, zero, suc, ◌+◌, Bool, true, false, List, [], ◌∷◌, Some, None, Option, ◌∙◌, ⊎_elim, arith, take}
use Rattle.std.proofs.lemmas.Bool.{cases_Bool}
use Rattle.std.proofs.lemmas.List.Elements.{All-nil, All-cons}
use Rattle.rows.specs.Firsts.{first_failing, First}

-- an answer about a list whose first element has index i
abbrev Shifted : {X : Type 0} → (X → Bool) → ℕ → List X → Option ℕ → Type 0
Shifted test i xs None = First test xs None
Shifted test i xs (Some j) = (k : ℕ) × (j ≡ i + k) × First test xs (Some k)

-- an element in front that passes
passed : {X : Type 0} (test : X → Bool) (i : ℕ) (x : X) (xs : List X) (o : Option ℕ) → test x ≡ true → Shifted test (i + 1) xs o → Shifted test i (x ∷ xs) o
passed test i x xs None e s = All-cons (λ y. test y ≡ true) x xs e s
passed test i x xs (Some j) e s = (suc s.0, omega (arith, s.1), (omega (arith, s.2.0), s.2.1, All-cons (λ y. test y ≡ true) x (take s.0 xs) e s.2.2))

scanned : {X : Type 0} (test : X → Bool) (i : ℕ) (xs : List X) → Shifted test i xs (first_failing test i xs)
scanned test i [] = All-nil (λ y. test y ≡ true)
scanned {X} test i (x ∷ xs) =
    ⊎_elim {C = Shifted test i (x ∷ xs) (first_failing test i (x ∷ xs))}
    (λ (e : test x ≡ true). rw e (passed test i x xs (first_failing test (i + 1) xs) e (scanned test (i + 1) xs)))
    (λ (e : test x ≡ false). rw e (zero, omega arith, (omega arith, (λ d. e), All-nil (λ y. test y ≡ true))))
    (cases_Bool (test x))

-- from an answer that starts at index 0
unshifted : {X : Type 0} (test : X → Bool) (xs : List X) (o : Option ℕ) → Shifted test 0 xs o → First test xs o
unshifted test xs None s = s
unshifted test xs (Some j) s = let e : j ≡ s.0 = omega (arith, s.1) in rw e s.2

pub first-is-first : {X : Type 0} (test : X → Bool) (xs : List X) → First test xs (first_failing test 0 xs)
first-is-first test xs = unshifted test xs (first_failing test 0 xs) (scanned test 0 xs)

-- the first that fails is the first that passes the opposite test, as the library looks for it
first_failing-is : {X : Type 0} (test : X → Bool) (i : ℕ) (xs : List X) → first_failing test i xs ≡ position_from (λ x. not (test x)) i xs
first_failing-is test i [] = refl
first_failing-is test i (x ∷ xs) = let e = first_failing-is test (i + 1) xs in grind (arith, e)

pub first-is-position : {X : Type 0} (test : X → Bool) (xs : List X) → position (λ x. not (test x)) xs ≡ first_failing test 0 xs
first-is-position test xs = position_from-zero (λ x. not (test x)) xs ∙ sym (first_failing-is test 0 xs)
