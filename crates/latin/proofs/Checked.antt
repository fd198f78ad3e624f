-- What a Latin square is, as chains of iterators compute it.
use Rattle.std.proofs.Common.{◌≡◌, ℕ, ◌+◌, ◌*◌, ◌&&◌, eqb, ltb, List, map, length, get_or, count_by, refl, ap, ◌∙◌, arith}
use Rattle.std.specs.List.{range_with_len, list_all}
use Rattle.std.proofs.lemmas.List.Recursion.{is_count_by}
use Rattle.std.proofs.lemmas.Bool.Decides.{nat_tests}
use Rattle.puzzles.specs.Words.{each_once, every, times}
use Rattle.puzzles.proofs.Chains.{every-all, every-list, once-counted}
use Rattle.latin.specs.Latin.{column_symbols, is_square, row_symbols}

-- how often a value stands in a list of what f gives, as `filter` and `count`
times-map : {X : Type 0} (v : ℕ) (f : X → ℕ) (xs : List X) → times v (map f xs) ≡ count_by (λ x. eqb (f x) v) xs
times-map v f xs = is_count_by (λ ys. times v (map f ys)) (λ x. eqb (f x) v) refl (λ x ys. grind (arith, nat_tests)) xs

-- each value once in such a list
once-counted-map : {X : Type 0} (n : ℕ) (f : X → ℕ) (xs : List X) → each_once n (map f xs) ≡ list_all (λ v. eqb (count_by (λ x. eqb (f x) v) xs) 1) (range_with_len 0 n)
once-counted-map n f xs = every-all n (λ v. eqb (times v (map f xs)) 1) (λ v. eqb (count_by (λ x. eqb (f x) v) xs) 1) (λ v. ap (λ m. eqb m 1) (times-map v f xs))

-- what makes a Latin square
pub square_checked : (n : ℕ) (a : List ℕ) → length a ≡ n * n → is_square n a ≡ (list_all (λ x. ltb x n) a && (list_all (λ r. list_all (λ s. eqb (count_by (λ x. eqb x s) (row_symbols n a r)) 1) (range_with_len 0 n)) (range_with_len 0 n) && list_all (λ c. list_all (λ s. eqb (count_by (λ r. eqb (get_or a (r * n + c) 0) s) (range_with_len 0 n)) 1) (range_with_len 0 n)) (range_with_len 0 n)))
square_checked n a h =
    let e = every-list (λ x. ltb x n) a 0 ∙ ap (λ m. every m (λ p. ltb (get_or a p 0) n)) h in
    let r = every-all n (λ r. each_once n (row_symbols n a r)) (λ r. list_all (λ s. eqb (count_by (λ x. eqb x s) (row_symbols n a r)) 1) (range_with_len 0 n)) (λ r. once-counted n (row_symbols n a r)) in
    let c = every-all n (λ c. each_once n (column_symbols n a c)) (λ c. list_all (λ s. eqb (count_by (λ r. eqb (get_or a (r * n + c) 0) s) (range_with_len 0 n)) 1) (range_with_len 0 n)) (λ c. once-counted-map n (λ r. get_or a (r * n + c) 0) (range_with_len 0 n)) in
    cc
