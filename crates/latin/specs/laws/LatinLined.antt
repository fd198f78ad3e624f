-- The lines of Latin squares say what an answer is.
use Rattle.std.proofs.Common.{◌≡◌, ℕ, ◌+◌, ◌*◌, ◌<◌, Bool, true, ◌&&◌, eqb, ltb, List, ◌++◌, map, length, get_or, sym, refl, ap, ◌∙◌, arith}
use Rattle.std.specs.List.{range_with_len, flat_map, list_all, All}
use Rattle.std.proofs.lemmas.Nat.{mul-add-lt}
use Rattle.std.proofs.lemmas.List.Elements.{All-append}
use Rattle.std.proofs.lemmas.Bool.Decides.{nat_tests}
use Rattle.std.proofs.lemmas.Bool.{eqb-true}
use Rattle.puzzles.specs.Boards.{Lined}
use Rattle.puzzles.specs.Givens.{all_given, fits, given_line}
use Rattle.puzzles.specs.Lines.{Inside, Line, On, all_met, at, met, place_lines}
use Rattle.puzzles.specs.Words.{each_once, every, times}
use Rattle.puzzles.specs.declared.givens.Given.{Given}
use Rattle.puzzles.proofs.Every.{all_met-append, all_met-every, all_met-joined, every-range, every-same, same_after}
use Rattle.puzzles.proofs.GivenLines.{given-lines-inside, given-lines-met}
use Rattle.puzzles.proofs.Hits.{hits-along, place_lines-met}
use Rattle.puzzles.proofs.Insides.{all-map-counting, all-pairs, place_lines-inside}
use Rattle.puzzles.proofs.Made.{makeable-fit}
use Rattle.latin.specs.Latin.{column_line, column_symbols, is_square, largest, latin, latin_lines, latin_makeable, row_line, row_symbols, smallest}

-- lines made from pairs of numbers below n and m
pub all_met-pairs : (a : List ℕ) (f : ℕ → ℕ → Line) (n m : ℕ) → all_met a (flat_map (λ i. map (f i) (range_with_len 0 m)) (range_with_len 0 n)) ≡ every n (λ i. every m (λ j. met a (f i j)))
all_met-pairs a f n m =
    all_met-joined a (λ i. map (f i) (range_with_len 0 m)) (range_with_len 0 n)
    ∙ (every-range n (λ i. all_met a (map (f i) (range_with_len 0 m)))
    ∙ every-same n (λ i. all_met a (map (f i) (range_with_len 0 m))) (λ i. every m (λ j. met a (f i j))) (λ i h. all_met-every a (f i) m))

-- each line is on the board
row-line-inside : (n r s : ℕ) → r < n → s < n → Inside n (n * n) (row_line n r s)
row-line-inside n r s h l = all-map-counting (On n (n * n)) (λ c. at (r * n + c) s) 0 n (λ c k u. (mul-add-lt r n c n h (omega arith), l))

column-line-inside : (n c s : ℕ) → c < n → s < n → Inside n (n * n) (column_line n c s)
column-line-inside n c s h l = all-map-counting (On n (n * n)) (λ r. at (r * n + c) s) 0 n (λ r k u. (mul-add-lt r n c n (omega arith) h, l))

lines-inside : (n : ℕ) (gs : List Given) → list_all (fits n (n * n)) gs ≡ true → All (Inside n (n * n)) (latin_lines n gs)
lines-inside n gs e =
    let P = Inside n (n * n) in
    let rows = flat_map (λ r. map (row_line n r) (range_with_len 0 n)) (range_with_len 0 n) in
    let columns = flat_map (λ c. map (column_line n c) (range_with_len 0 n)) (range_with_len 0 n) in
    All-append P (place_lines n (n * n)) (rows ++ (columns ++ map given_line gs)) (place_lines-inside n (n * n))
    (All-append P rows (columns ++ map given_line gs) (all-pairs P (row_line n) n n (row-line-inside n))
    (All-append P columns (map given_line gs) (all-pairs P (column_line n) n n (column-line-inside n))
    (given-lines-inside n (n * n) gs e)))

-- the lines of the rows are met where each symbol stands once in each
rows-met : (n : ℕ) (a : List ℕ) → all_met a (flat_map (λ r. map (row_line n r) (range_with_len 0 n)) (range_with_len 0 n)) ≡ every n (λ r. each_once n (row_symbols n a r))
rows-met n a =
    all_met-pairs a (row_line n) n n
    ∙ every-same n (λ r. every n (λ s. met a (row_line n r s))) (λ r. each_once n (row_symbols n a r)) (λ r h. every-same n (λ s. met a (row_line n r s)) (λ s. eqb (times s (row_symbols n a r)) 1) (λ s l. ap (λ m. eqb m 1) (hits-along a (λ c. r * n + c) s (range_with_len 0 n))))

-- and those of the columns likewise
columns-met : (n : ℕ) (a : List ℕ) → all_met a (flat_map (λ c. map (column_line n c) (range_with_len 0 n)) (range_with_len 0 n)) ≡ every n (λ c. each_once n (column_symbols n a c))
columns-met n a =
    all_met-pairs a (column_line n) n n
    ∙ every-same n (λ c. every n (λ s. met a (column_line n c s))) (λ c. each_once n (column_symbols n a c)) (λ c h. every-same n (λ s. met a (column_line n c s)) (λ s. eqb (times s (column_symbols n a c)) 1) (λ s l. ap (λ m. eqb m 1) (hits-along a (λ r. r * n + c) s (range_with_len 0 n))))

-- what makes a square as one test
regroup : (p r c g : Bool) → (p && (r && (c && g))) ≡ ((p && (r && c)) && g)
regroup p r c g = grind (arith, nat_tests)

-- the lines are met where those of each kind are
lines-met : (n : ℕ) (gs : List Given) (a : List ℕ) → length a ≡ n * n → list_all (fits n (n * n)) gs ≡ true → all_met a (latin_lines n gs) ≡ (is_square n a && all_given gs a)
lines-met n gs a l e =
    simp (all_met-append, place_lines-met, rows-met, columns-met)
    (rw (given-lines-met n (n * n) a gs l e)
    (regroup (every (n * n) (λ p. ltb (get_or a p 0) n)) (every n (λ r. each_once n (row_symbols n a r))) (every n (λ c. each_once n (column_symbols n a c))) (all_given gs a)))

-- Latin squares as lines
pub latin-lined : (n : ℕ) (gs : List Given) → latin_makeable n gs ≡ true → Lined (latin n gs)
latin-lined n gs e =
    let k = makeable-fit smallest largest (fits n (n * n)) n gs e in
    record {
      rest = flat_map (λ r. map (row_line n r) (range_with_len 0 n)) (range_with_len 0 n) ++ (flat_map (λ c. map (column_line n c) (range_with_len 0 n)) (range_with_len 0 n) ++ map given_line gs);
      starts = refl;
      inside = lines-inside n gs k;
      meets = λ a. same_after (eqb (length a) (n * n)) (is_square n a && all_given gs a) (all_met a (latin_lines n gs)) (λ l. sym (lines-met n gs a (eqb-true (length a) (n * n) l) k));
    }
