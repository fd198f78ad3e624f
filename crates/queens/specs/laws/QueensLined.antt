-- The lines of queens say what an answer is.
use Rattle.std.proofs.Common.{◌≡◌, ℕ, ◌+◌, ◌-◌, ◌*◌, ◌<◌, Bool, true, not, ◌&&◌, eqb, ltb, leb, List, ◌++◌, map, length, get_or, sym, refl, ap, ◌∙◌, arith}
use Rattle.std.specs.List.{range_with_len, list_all, All}
use Rattle.std.proofs.lemmas.List.Elements.{All-append, All-filter}
use Rattle.std.proofs.lemmas.Bool.{and_parts, and_from, eqb-true, ltb-true}
use Rattle.std.proofs.lemmas.Bool.Decides.{nat_tests}
use Rattle.puzzles.specs.Boards.{Lined}
use Rattle.puzzles.specs.Givens.{all_given, fits, given_line}
use Rattle.puzzles.specs.Lines.{Inside, On, all_met, at, hits, met, place_lines, value_lines}
use Rattle.puzzles.specs.Words.{each_once, every}
use Rattle.puzzles.specs.declared.givens.Given.{Given}
use Rattle.puzzles.proofs.Every.{all_met-append, all_met-elim, all_met-intro, every-elim, every-intro, every-two-elim, same_after, same_tests}
use Rattle.puzzles.proofs.GivenLines.{fits-places, given-lines-inside, given-lines-stand, given-lines-values}
use Rattle.puzzles.proofs.Hits.{place_lines-met, value_lines-met}
use Rattle.puzzles.proofs.Insides.{all-counting, all-joined, all-map-counting, place-on, place_lines-inside, value_lines-inside}
use Rattle.puzzles.proofs.Made.{makeable-fit}
use Rattle.queens.specs.Queens.{aligned, all_cells, falling, largest, queens, queens_answer, queens_lines, queens_makeable, rising, smallest}
use Rattle.queens.specs.laws.DiagonalCells.{falling-cells, one-taken, rising-cells}

-- a test of any two numbers below n
pub every-two-intro : (n : ℕ) (t : ℕ → ℕ → Bool) → ((i j : ℕ) → i < j → j < n → t i j ≡ true) → every n (λ j. every j (λ i. t i j)) ≡ true
every-two-intro n t h = every-intro n (λ j. every j (λ i. t i j)) (λ j k. every-intro j (λ i. t i j) (λ i l. h i j l k))

-- every cell is on the board
all-on : (n : ℕ) → All (On n n) (all_cells n)
all-on n = all-joined (On n n) (λ p. map (at p) (range_with_len 0 n)) (range_with_len 0 n) (all-counting (λ p. All (On n n) (map (at p) (range_with_len 0 n))) 0 n (λ p l u. place-on n n p (omega arith)))

-- and so are the lines
lines-inside : (n : ℕ) (gs : List Given) → list_all (fits n n) gs ≡ true → All (Inside n n) (queens_lines n gs)
lines-inside n gs e =
    let P = Inside n n in
    let r = map (rising n) (range_with_len 1 (2 * n - 3)) ++ map given_line gs in
    let f = map (falling n) (range_with_len 2 (2 * n - 3)) ++ r in
    All-append P (place_lines n n) (value_lines n n ++ f) (place_lines-inside n n)
    (All-append P (value_lines n n) f (value_lines-inside n n)
    (All-append P (map (falling n) (range_with_len 2 (2 * n - 3))) r (all-map-counting P (falling n) 2 (2 * n - 3) (λ d l u. All-filter (λ c. eqb (c.value + n) (c.place + d)) (On n n) (all_cells n) (all-on n)))
    (All-append P (map (rising n) (range_with_len 1 (2 * n - 3))) (map given_line gs) (all-map-counting P (rising n) 1 (2 * n - 3) (λ d l u. All-filter (λ c. eqb (c.place + c.value) d) (On n n) (all_cells n) (all-on n)))
    (given-lines-inside n n gs e))))

-- whether the queen of row p is on falling diagonal d
abbrev on_falling : ℕ → List ℕ → ℕ → ℕ → Bool
on_falling n a d p = eqb (get_or a p 0 + n) (p + d)

-- whether the queen of row p is on rising diagonal d
abbrev on_rising : List ℕ → ℕ → ℕ → Bool
on_rising a d p = eqb (p + get_or a p 0) d

-- boards with the queen of each row on them
module _ (n : ℕ) (a : List ℕ) (below : (p : ℕ) → p < n → get_or a p 0 < n) where
  -- a falling diagonal is met where no two queens are on it
  falling-met : (d : ℕ) → met a (falling n d) ≡ every n (λ j. every j (λ i. not (on_falling n a d i && on_falling n a d j)))
  falling-met d =
      ap (λ cs. leb (hits a cs) 1) (falling-cells n d)
      ∙ one-taken a (λ p. leb n (p + d) && ltb (p + d) (n + n)) (λ p. at p (p + d - n)) (on_falling n a d) n (λ p h. let x = below p h in grind (arith, nat_tests))

  -- and so is a rising one
  rising-met : (d : ℕ) → met a (rising n d) ≡ every n (λ j. every j (λ i. not (on_rising a d i && on_rising a d j)))
  rising-met d =
      ap (λ cs. leb (hits a cs) 1) (rising-cells n d)
      ∙ one-taken a (λ p. leb p d && ltb (d - p) n) (λ p. at p (d - p)) (on_rising a d) n (λ p h. let x = below p h in grind (arith, nat_tests))

  -- where no two queens are aligned, every falling diagonal is met
  apart-falling : every n (λ j. every j (λ i. not (aligned a i j))) ≡ true → (d : ℕ) → met a (falling n d) ≡ true
  apart-falling e d = falling-met d ∙ every-two-intro n (λ i j. not (on_falling n a d i && on_falling n a d j)) (λ i j l h. let q = every-two-elim n (λ i j. not (aligned a i j)) e i j l h in grind (arith, nat_tests))

  -- and every rising one
  apart-rising : every n (λ j. every j (λ i. not (aligned a i j))) ≡ true → (d : ℕ) → met a (rising n d) ≡ true
  apart-rising e d = rising-met d ∙ every-two-intro n (λ i j. not (on_rising a d i && on_rising a d j)) (λ i j l h. let q = every-two-elim n (λ i j. not (aligned a i j)) e i j l h in grind (arith, nat_tests))

  -- where the falling lines are met, no two queens are aligned that way
  falling-apart : all_met a (map (falling n) (range_with_len 2 (2 * n - 3))) ≡ true → (i j : ℕ) → i < j → j < n → get_or a i 0 + j ≡ get_or a j 0 + i → ⊥
  falling-apart e i j l h q =
      let x = below j h in
      let d = get_or a i 0 + n - i in
      let m = all_met-elim a (falling n) 2 (2 * n - 3) e d (omega arith) (omega arith) in
      let r = every-two-elim n (λ i j. not (on_falling n a d i && on_falling n a d j)) (sym (falling-met d) ∙ m) i j l h in
      grind (arith, nat_tests)

  -- and likewise for the rising lines
  rising-apart : all_met a (map (rising n) (range_with_len 1 (2 * n - 3))) ≡ true → (i j : ℕ) → i < j → j < n → get_or a i 0 + i ≡ get_or a j 0 + j → ⊥
  rising-apart e i j l h q =
      let x = below i (omega arith) in
      let d = i + get_or a i 0 in
      let m = all_met-elim a (rising n) 1 (2 * n - 3) e d (omega arith) (omega arith) in
      let r = every-two-elim n (λ i j. not (on_rising a d i && on_rising a d j)) (sym (rising-met d) ∙ m) i j l h in
      grind (arith, nat_tests)

  -- no two queens are aligned where all diagonals are met
  diagonals-met : every n (λ j. every j (λ i. not (aligned a i j))) ≡ (all_met a (map (falling n) (range_with_len 2 (2 * n - 3))) && all_met a (map (rising n) (range_with_len 1 (2 * n - 3))))
  diagonals-met =
      let f = all_met a (map (falling n) (range_with_len 2 (2 * n - 3))) in
      let r = all_met a (map (rising n) (range_with_len 1 (2 * n - 3))) in
      same_tests (every n (λ j. every j (λ i. not (aligned a i j)))) (f && r)
      (λ e. and_from f r (all_met-intro a (falling n) 2 (2 * n - 3) (λ d l u. apart-falling e d)) (all_met-intro a (rising n) 1 (2 * n - 3) (λ d l u. apart-rising e d)))
      (λ e. every-two-intro n (λ i j. not (aligned a i j)) (λ i j l h.
      let p = falling-apart (and_parts f r e).0 i j l h in
      let q = rising-apart (and_parts f r e).1 i j l h in
      grind (arith, nat_tests)))

-- the lines are met where those of each kind are
lines-met : (n : ℕ) (gs : List Given) (a : List ℕ) → all_met a (queens_lines n gs) ≡ (every n (λ i. ltb (get_or a i 0) n) && (all_met a (value_lines n n) && (all_met a (map (falling n) (range_with_len 2 (2 * n - 3))) && (all_met a (map (rising n) (range_with_len 1 (2 * n - 3))) && all_met a (map given_line gs)))))
lines-met n gs a = simp (all_met-append, place_lines-met)

-- the diagonals of both ways as one test
regroup : (b f r g : Bool) → (b && ((f && r) && g)) ≡ (b && (f && (r && g)))
regroup b f r g = grind (arith, nat_tests)

-- what the lists of values that meet every line are: a given whose place is past the list asks for value 0
values-meet : (n : ℕ) (gs : List Given) (a : List ℕ) → (eqb (length a) n && (every n (λ i. ltb (get_or a i 0) n) && (each_once n a && (every n (λ j. every j (λ i. not (aligned a i j))) && list_all (λ g. eqb (get_or a g.place 0) g.value) gs)))) ≡ (eqb (length a) n && all_met a (queens_lines n gs))
values-meet n gs a =
    let rows = every n (λ i. ltb (get_or a i 0) n) in
    let c = all_met a (value_lines n n) in
    let f = all_met a (map (falling n) (range_with_len 2 (2 * n - 3))) in
    let r = all_met a (map (rising n) (range_with_len 1 (2 * n - 3))) in
    let g = all_met a (map given_line gs) in
    let own = each_once n a && (every n (λ j. every j (λ i. not (aligned a i j))) && list_all (λ g. eqb (get_or a g.place 0) g.value) gs) in
    same_after (eqb (length a) n) (rows && own) (all_met a (queens_lines n gs)) (λ e.
    same_after rows own (c && (f && (r && g))) (λ h.
    let p = value_lines-met a n n (eqb-true (length a) n e) in
    let q = diagonals-met n a (λ p l. ltb-true (get_or a p 0) n (every-elim n (λ i. ltb (get_or a i 0) n) h p l)) in
    let s = given-lines-values a gs in
    let t = regroup c f r g in
    cc)
    ∙ sym (lines-met n gs a))

-- the test of places before the others
places-first : (p l r c d g : Bool) → (l && (r && (c && (d && (p && g))))) ≡ (p && (l && (r && (c && (d && g)))))
places-first p l r c d g = grind (arith, nat_tests)

-- the answers are those lists, where each given's place is on the board
answers-meet : (n : ℕ) (gs : List Given) (a : List ℕ) → queens_answer n gs a ≡ (list_all (λ g. ltb g.place n) gs && (eqb (length a) n && all_met a (queens_lines n gs)))
answers-meet n gs a =
    let len = eqb (length a) n in
    let places = list_all (λ g. ltb g.place n) gs in
    let rows = every n (λ i. ltb (get_or a i 0) n) in
    let diagonals = every n (λ j. every j (λ i. not (aligned a i j))) in
    let values = list_all (λ g. eqb (get_or a g.place 0) g.value) gs in
    same_after len (rows && (each_once n a && (diagonals && all_given gs a))) (rows && (each_once n a && (diagonals && (places && values)))) (λ e. ap (λ b. rows && (each_once n a && (diagonals && b))) (given-lines-stand a gs ∙ rw (eqb-true (length a) n e, given-lines-values a gs) refl))
    ∙ (places-first places len rows (each_once n a) diagonals values ∙ ap (λ b. places && b) (values-meet n gs a))

-- queens as lines
pub queens-lined : (n : ℕ) (gs : List Given) → queens_makeable n gs ≡ true → Lined (queens n gs)
queens-lined n gs e =
    let k = makeable-fit smallest largest (fits n n) n gs e in
    record {
      rest = value_lines n n ++ (map (falling n) (range_with_len 2 (2 * n - 3)) ++ (map (rising n) (range_with_len 1 (2 * n - 3)) ++ map given_line gs));
      starts = refl;
      inside = lines-inside n gs k;
      meets = λ a. answers-meet n gs a ∙ rw (fits-places n n gs k) refl;
    }
