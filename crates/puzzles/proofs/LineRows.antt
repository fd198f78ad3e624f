-- The rows of lines that follow one another.
use Rattle.std.proofs.Common.{◌≡◌, ℕ, zero, suc, ◌+◌, ◌*◌, ◌<◌, ◌≤◌, Bool, true, cond, ltb, List, [], ◌∷◌, ◌++◌, map, length, Some, refl, arith}
use Rattle.std.specs.Option.{option_and_then, option_map}
use Rattle.std.specs.List.{range_with_len, list_all, slice_get}
use Rattle.std.proofs.lemmas.Nat.{mul-add-lt}
use Rattle.std.proofs.lemmas.Bool.{and_parts, ltb-true}
use Rattle.std.proofs.lemmas.Bool.Decides.{nat_tests}
use Rattle.rows.specs.Literals.{within}
use Rattle.puzzles.specs.Filling.{run_fits, run_row}
use Rattle.puzzles.specs.Givens.{fits, given_line}
use Rattle.puzzles.specs.Lines.{Line, at, plain, row_of, rows_from, slacks}
use Rattle.puzzles.specs.declared.givens.Given.{Given}

-- each line has a row
pub length-rows : (size s : ℕ) (ls : List Line) → length (rows_from size s ls) ≡ length ls
length-rows size s [] = refl
length-rows size s (l ∷ ls) = let e = length-rows size (s + cond l.slack 1 0) ls in cc

-- the slacks of two lists of lines
pub slacks-append : (xs ys : List Line) → slacks (xs ++ ys) ≡ slacks xs + slacks ys
slacks-append [] ys = omega arith
slacks-append (x ∷ xs) ys = let e = slacks-append xs ys in omega arith

-- the line of a place, and of a value, where there are n of the other
abbrev pub place_line : ℕ → ℕ → Line
place_line n p = plain (map (at p) (range_with_len 0 n))

abbrev pub value_line : ℕ → ℕ → Line
value_line n v = plain (map (λ p. at p v) (range_with_len 0 n))

-- givens have none
pub slacks-givens : (gs : List Given) → slacks (map given_line gs) ≡ 0
slacks-givens [] = refl
slacks-givens (g ∷ gs) = let e = slacks-givens gs in omega arith

-- the row of a given is that of its one cell
pub given-rows : (size s : ℕ) (gs : List Given) (i : ℕ) → slice_get (rows_from size s (map given_line gs)) i ≡ option_map (λ g. 2 * (g.place * size + g.value) ∷ []) (slice_get gs i)
given-rows size s [] i = refl
given-rows size s (g ∷ gs) zero = refl
given-rows size s (g ∷ gs) (suc i) = given-rows size (s + 0) gs i

-- on a board of few variables it is the run of that one variable
module _ (size places : ℕ) (few : places * size ≤ within) where
  pub nth-givens : (s : ℕ) (gs : List Given) (i : ℕ) → list_all (fits size places) gs ≡ true → slice_get (rows_from size s (map given_line gs)) i ≡ option_and_then (λ g. run_row (g.place * size + g.value) 1 1) (slice_get gs i)
  nth-givens s [] i e = refl
  nth-givens s (g ∷ gs) zero e =
      let p = and_parts (fits size places g) (list_all (fits size places) gs) e in
      let q = and_parts (ltb g.place places) (ltb g.value size) p.0 in
      let l = mul-add-lt g.place size g.value places (ltb-true g.place places q.0) (ltb-true g.value size q.1) in
      let f : run_fits (g.place * size + g.value) 1 1 ≡ true = grind (arith, nat_tests) in
      let z : g.place * size + g.value + 0 * 1 ≡ g.place * size + g.value = omega arith in
      rw (f, z) refl
  nth-givens s (g ∷ gs) (suc i) e = nth-givens (s + 0) gs i (and_parts (fits size places g) (list_all (fits size places) gs) e).1

-- lines that all have a slack, or all have none
module _ (f : ℕ → Line) (b : Bool) (alike : (k : ℕ) → (f k).slack ≡ b) where
  -- how many slacks they have
  pub slacks-alike : (a m : ℕ) → slacks (map f (range_with_len a m)) ≡ cond b m 0
  slacks-alike a zero = grind (arith, nat_tests)
  slacks-alike a (suc m) = let e = slacks-alike (a + 1) m in let h = alike a in grind (arith, nat_tests)

  -- the row of one of them
  pub nth-alike : (size s a m : ℕ) (rest : List Line) (i t j : ℕ) → i < m → s + cond b i 0 ≡ t → a + i ≡ j → slice_get (rows_from size s (map f (range_with_len a m) ++ rest)) i ≡ Some (row_of size t (f j))
  nth-alike size s a zero rest i t j l p q = absurd (omega arith)
  nth-alike size s a (suc m) rest zero t j l p q = let x : s ≡ t = grind (arith, nat_tests) in let y : a ≡ j = omega arith in cc
  nth-alike size s a (suc m) rest (suc i) t j l p q = rw (alike a) (nth-alike size (s + cond b 1 0) (a + 1) m rest i t j (omega arith) (grind (arith, nat_tests)) (omega arith))

  -- the rows past them are those of the lines that follow
  pub nth_after : (size s a m : ℕ) (rest : List Line) (i t j : ℕ) → s + cond b m 0 ≡ t → i ≡ m + j → slice_get (rows_from size s (map f (range_with_len a m) ++ rest)) i ≡ slice_get (rows_from size t rest) j
  nth_after size s a zero rest i t j p q = let x : s ≡ t = grind (arith, nat_tests) in let y : i ≡ j = omega arith in cc
  nth_after size s a (suc m) rest i t j p q =
      let k : i ≡ suc (m + j) = omega arith in
      rw (k, alike a) (nth_after size (s + cond b 1 0) (a + 1) m rest (m + j) t j (grind (arith, nat_tests)) refl)
