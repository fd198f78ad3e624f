-- Tests of all in a list.
use Rattle.std.proofs.Common.{◌≡◌, ℕ, Bool, not, ◌&&◌, ◌||◌, List, [], ◌∷◌, map, filter, refl, ap, ◌∙◌, arith}
use Rattle.std.specs.List.{range_with_len, list_all, flat_map}
use Rattle.std.proofs.lemmas.List.Folds.{list_all-append, list_all-map}
use Rattle.std.proofs.lemmas.Bool.Decides.{nat_tests}
use Rattle.puzzles.specs.Words.{every}
use Rattle.puzzles.proofs.Every.{every-range, every-same}

-- tests that agree on each element pass all alike
pub list_all-same : {X : Type 0} (t u : X → Bool) (xs : List X) → ((x : X) → t x ≡ u x) → list_all t xs ≡ list_all u xs
list_all-same t u [] h = refl
list_all-same t u (x ∷ xs) h = let e = list_all-same t u xs h in let f = h x in cc

-- a test of all in a joined list is one of all in each part
list_all-joined : {X A : Type 0} (t : A → Bool) (g : X → List A) (xs : List X) → list_all t (flat_map g xs) ≡ list_all (λ x. list_all t (g x)) xs
list_all-joined t g [] = refl
list_all-joined t g (x ∷ xs) = list_all-append t (g x) (flat_map g xs) ∙ ap (λ b. list_all t (g x) && b) (list_all-joined t g xs)

-- a test of all that another lets through
pub list_all-filter : {X : Type 0} (t s : X → Bool) (xs : List X) → list_all t (filter s xs) ≡ list_all (λ x. not (s x) || t x) xs
list_all-filter t s [] = refl
list_all-filter t s (x ∷ xs) = let e = list_all-filter t s xs in grind (arith, nat_tests)

-- tests of pairs of numbers below n and m
pub all-pairs-tested : {X : Type 0} (t : X → Bool) (f : ℕ → ℕ → X) (n m : ℕ) → list_all t (flat_map (λ i. map (f i) (range_with_len 0 m)) (range_with_len 0 n)) ≡ every n (λ i. every m (λ j. t (f i j)))
all-pairs-tested t f n m =
    list_all-joined t (λ i. map (f i) (range_with_len 0 m)) (range_with_len 0 n)
    ∙ (every-range n (λ i. list_all t (map (f i) (range_with_len 0 m)))
    ∙ every-same n (λ i. list_all t (map (f i) (range_with_len 0 m))) (λ i. every m (λ j. t (f i j))) (λ i h. list_all-map t (f i) (range_with_len 0 m) ∙ every-range m (λ j. t (f i j))))
