-- How many cells of a line are taken.
use Rattle.std.proofs.Common.{◌≡◌, ℕ, zero, suc, ◌+◌, Bool, cond, not, ◌&&◌, ◌||◌, eqb, ltb, leb, List, [], ◌∷◌, map, length, get_or, sym, refl, ap, ◌∙◌, arith}
use Rattle.std.specs.List.{range_with_len}
use Rattle.std.proofs.lemmas.List.FromFn.{map-range_with_len_more, fill_by_all}
use Rattle.std.proofs.lemmas.Bool.Decides.{nat_tests}
use Rattle.rows.specs.Truth.{trues}
use Rattle.rows.proofs.Tallies.{trues-append}
use Rattle.puzzles.specs.Lines.{all_met, at, hits, met, place_lines, plain, value_lines}
use Rattle.puzzles.specs.Words.{each_once, every, times}
use Rattle.puzzles.proofs.Every.{all_met-every, every-same}

-- one more number is tested
trues-more : (t : ℕ → Bool) (n : ℕ) → trues (map t (range_with_len 0 (suc n))) ≡ trues (map t (range_with_len 0 n)) + cond (t n) 1 0
trues-more t n =
    let s : suc n ≡ n + 1 = omega arith in
    let e = ap (λ m. trues (map t (range_with_len 0 m))) s in
    let f = ap trues (map-range_with_len_more t 0 n n (omega arith)) in
    let g = trues-append (map t (range_with_len 0 n)) (t n ∷ []) in
    omega arith

-- no number below n passes together with a test b
none_passes : (t : ℕ → Bool) (b : Bool) (n : ℕ) → every n (λ i. not (t i && b)) ≡ (not b || eqb (trues (map t (range_with_len 0 n))) 0)
none_passes t b zero = grind (arith, nat_tests)
none_passes t b (suc n) = let e = none_passes t b n in let m = trues-more t n in grind (arith, nat_tests)

-- at most one number below n passes where no two of them do
pub one_passes : (t : ℕ → Bool) (n : ℕ) → leb (trues (map t (range_with_len 0 n))) 1 ≡ every n (λ j. every j (λ i. not (t i && t j)))
one_passes t zero = refl
one_passes t (suc n) =
    let e = one_passes t n in
    let f = none_passes t (t n) n in
    let m = trues-more t n in
    grind (arith, nat_tests)

-- of the cells of one place, the one with its own value is taken
own_value : (a : List ℕ) (p i m : ℕ) → hits a (map (at p) (range_with_len i m)) ≡ cond (leb i (get_or a p 0) && ltb (get_or a p 0) (i + m)) 1 0
own_value a p i zero = grind (arith, nat_tests)
own_value a p i (suc m) = let e = own_value a p (i + 1) m in grind (arith, nat_tests)

-- the line of a place is met where its value is in range
pub place-line-met : (a : List ℕ) (size p : ℕ) → met a (plain (map (at p) (range_with_len 0 size))) ≡ ltb (get_or a p 0) size
place-line-met a size p = let e = own_value a p 0 size in grind (arith, nat_tests)

-- and those of all places where all values are
pub place_lines-met : (a : List ℕ) (size places : ℕ) → all_met a (place_lines size places) ≡ every places (λ p. ltb (get_or a p 0) size)
place_lines-met a size places =
    all_met-every a (λ p. plain (map (at p) (range_with_len 0 size))) places
    ∙ every-same places (λ p. met a (plain (map (at p) (range_with_len 0 size)))) (λ p. ltb (get_or a p 0) size) (λ p h. place-line-met a size p)

-- the cells of a value at places made from numbers are taken as often as it stands there
pub hits-along : (a : List ℕ) (f : ℕ → ℕ) (v : ℕ) (ps : List ℕ) → hits a (map (λ p. at (f p) v) ps) ≡ times v (map (λ p. get_or a (f p) 0) ps)
hits-along a f v [] = refl
hits-along a f v (p ∷ ps) = let e = hits-along a f v ps in grind (arith, nat_tests)

-- a list is that of its values
pub values-are : (a : List ℕ) (n : ℕ) → length a ≡ n → a ≡ map (λ p. get_or a p 0) (range_with_len 0 n)
values-are a n e = fill_by_all (λ p. get_or a p 0) a n 0 e (λ k h. refl)

-- the lines of values are met where each value stands once
pub value_lines-met : (a : List ℕ) (size places : ℕ) → length a ≡ places → all_met a (value_lines size places) ≡ each_once size a
value_lines-met a size places e =
    all_met-every a (λ v. plain (map (λ p. at p v) (range_with_len 0 places))) size
    ∙ every-same size (λ v. met a (plain (map (λ p. at p v) (range_with_len 0 places)))) (λ v. eqb (times v a) 1) (λ v h. ap (λ m. eqb m 1) (hits-along a (λ p. p) v (range_with_len 0 places) ∙ ap (times v) (sym (values-are a places e))))
