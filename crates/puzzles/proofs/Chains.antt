-- The words of the specs as what chains of iterators compute.
use Rattle.std.proofs.Common.{◌≡◌, ℕ, Bool, eqb, List, length, get_or, count_by, sym, refl, ap, ◌∙◌, arith}
use Rattle.std.specs.List.{range_with_len, list_all}
use Rattle.std.proofs.lemmas.List.FromFn.{fill_by_all}
use Rattle.std.proofs.lemmas.List.Folds.{list_all-map}
use Rattle.std.proofs.lemmas.List.Recursion.{is_count_by}
use Rattle.std.proofs.lemmas.Bool.Decides.{nat_tests}
use Rattle.rows.proofs.Scans.{first-is-first, first-is-position}
use Rattle.puzzles.specs.Words.{each_once, every, times}
use Rattle.puzzles.proofs.Every.{every-range, every-same}

-- a test of the element at every index, as `all` over the list
pub every-list : {X : Type 0} (t : X → Bool) (xs : List X) (d : X) → list_all t xs ≡ every (length xs) (λ i. t (get_or xs i d))
every-list t xs d =
    ap (list_all t) (fill_by_all (λ i. get_or xs i d) xs (length xs) d refl (λ k h. refl))
    ∙ (list_all-map t (λ i. get_or xs i d) (range_with_len 0 (length xs))
    ∙ every-range (length xs) (λ i. t (get_or xs i d)))

-- how often a value stands in a list, as `filter` and `count`
pub times-count : (v : ℕ) (xs : List ℕ) → times v xs ≡ count_by (λ x. eqb x v) xs
times-count v xs = is_count_by (times v) (λ x. eqb x v) refl (λ x ys. grind (arith, nat_tests)) xs

-- equal tests at every number below n, as `all` over the range
pub every-all : (n : ℕ) (t u : ℕ → Bool) → ((k : ℕ) → t k ≡ u k) → every n t ≡ list_all u (range_with_len 0 n)
every-all n t u h = every-same n t u (λ k l. h k) ∙ sym (every-range n u)

-- each value once, by such counts
pub once-counted : (n : ℕ) (xs : List ℕ) → each_once n xs ≡ list_all (λ v. eqb (count_by (λ x. eqb x v) xs) 1) (range_with_len 0 n)
once-counted n xs = every-all n (λ v. eqb (times v xs) 1) (λ v. eqb (count_by (λ x. eqb x v) xs) 1) (λ v. ap (λ m. eqb m 1) (times-count v xs))

-- the first that fails: that it is what it is called, and that `position` finds it
pub ruleset firsts = (first-is-first, first-is-position)
