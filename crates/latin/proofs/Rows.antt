-- The rows of Latin squares, one section after the other.
use Rattle.std.proofs.Common.{◌≡◌, ℕ, suc, ◌+◌, ◌-◌, ◌*◌, ◌/◌, ◌%◌, ◌<◌, ◌≤◌, true, false, List, ◌++◌, map, length, get_or, take, drop, Some, refl, ap, ◌∙◌, append-nil, arith}
use Rattle.std.specs.Option.{option_and_then}
use Rattle.std.specs.List.{range_with_len, slice_get}
use Rattle.std.proofs.lemmas.List.FromFn.{length-map-range_with_len, fill_by_all}
use Rattle.std.proofs.lemmas.List.{length-append, length-map, length-take-le, length-drop, get_or-take, get_or-drop}
use Rattle.std.proofs.lemmas.Nat.{div-add-mod', div_below, mod_below, mul-le}
use Rattle.puzzles.specs.Filling.{run_of, run_row}
use Rattle.puzzles.specs.Givens.{fits, given_line}
use Rattle.puzzles.specs.Boards.{rows, vars}
use Rattle.puzzles.specs.Lines.{Line, at, row_of, rows_from}
use Rattle.puzzles.specs.declared.givens.Given.{Given}
use Rattle.puzzles.proofs.Made.{makeable-size, makeable-fit}
use Rattle.puzzles.proofs.LineRows.{length-rows, nth-alike, nth-givens, nth_after, place_line, slacks-alike, slacks-append, slacks-givens}
use Rattle.puzzles.proofs.Pairs.{pairs-flat}
use Rattle.puzzles.proofs.Runs.{many, place-run, cells-run}
use Rattle.latin.specs.Latin.{column_line, largest, latin, latin_lines, latin_makeable, row_line, row_symbols, smallest}

-- the largest squares have few variables
pub few-cells : (n : ℕ) → n ≤ largest → (n * n ≤ largest * largest) × (n * (n * n) ≤ largest * (largest * largest))
few-cells n h = let k = mul-le n n largest largest h h in (k, mul-le n (n * n) largest (largest * largest) h k)

-- the first variable of a symbol in a board row
pub row-start : (n i : ℕ) → 0 < n → n ≤ largest → i < n * n → i / n * (n * n) + i % n < many
row-start n i h k l =
    let f = few-cells n k in
    let m = mul-le (i / n) (n * n) largest (largest * largest) (let d = div_below i n n h l in omega arith) f.0 in
    let r = mod_below i n h in
    omega arith

-- the line of symbol i % n in board row i / n, and in column i / n
abbrev in_row : ℕ → ℕ → Line
in_row n i = row_line n (i / n) (i % n)

abbrev in_column : ℕ → ℕ → Line
in_column n i = column_line n (i / n) (i % n)

-- their rows
row-run : (n i s : ℕ) → row_of n s (in_row n i) ≡ run_of (i / n * (n * n) + i % n) n n
row-run n i s = append-nil _ ∙ cells-run n (λ c. at (i / n * n + c) (i % n)) (i / n * (n * n) + i % n) n 0 n (λ k l. omega arith)

column-run : (n i s : ℕ) → 0 < n → row_of n s (in_column n i) ≡ run_of i (n * n) n
column-run n i s h = append-nil _ ∙ cells-run n (λ r. at (r * n + i / n) (i % n)) i (n * n) 0 n (λ k l. let e = div-add-mod' i n in omega arith)

-- the lines, by one number each
abbrev flat_lines : ℕ → List Given → List Line
flat_lines n gs =
    map (place_line n) (range_with_len 0 (n * n))
    ++ (map (in_row n) (range_with_len 0 (n * n))
    ++ (map (in_column n) (range_with_len 0 (n * n))
    ++ map given_line gs))

module _ (n : ℕ) (gs : List Given) (some : 0 < n) where
  lines-flat : latin_lines n gs ≡ flat_lines n gs
  lines-flat = rw (pairs-flat (row_line n) n n, pairs-flat (column_line n) n n)

  -- how many variables there are
  pub latin-vars : vars (latin n gs) ≡ n * n * n
  latin-vars =
      rw lines-flat
      (simp (slacks-append, slacks-givens)
      (omega (arith, slacks-alike (place_line n) false (λ k. refl) 0 (n * n), slacks-alike (in_row n) false (λ k. refl) 0 (n * n), slacks-alike (in_column n) false (λ k. refl) 0 (n * n))))

  -- how many rows there are
  pub latin-length : length (rows (latin n gs)) ≡ 3 * n * n + length gs
  latin-length = length-rows n (n * n * n) (latin_lines n gs) ∙ rw lines-flat (simp (length-append, length-map-range_with_len, length-map) (omega arith))

  -- the rows by index, of the lines by one number each
  nth-flat : (i : ℕ) → slice_get (rows (latin n gs)) i ≡ slice_get (rows_from n (n * n * n) (flat_lines n gs)) i
  nth-flat i = rw lines-flat refl

  -- the rows of the places come first
  pub latin-place : (i : ℕ) → i < n * n → slice_get (rows (latin n gs)) i ≡ Some (run_of (i * n) 1 n)
  latin-place i h = nth-flat i ∙ (nth-alike (place_line n) false (λ k. refl) n (n * n * n) 0 (n * n) _ i (n * n * n) i h (omega arith) (omega arith) ∙ ap Some (place-run n i (n * n * n)))

  -- past the places
  past-places : (i : ℕ) → n * n ≤ i → slice_get (rows (latin n gs)) i ≡ slice_get (rows_from n (n * n * n) (map (in_row n) (range_with_len 0 (n * n)) ++ (map (in_column n) (range_with_len 0 (n * n)) ++ map given_line gs))) (i - n * n)
  past-places i h = nth-flat i ∙ nth_after (place_line n) false (λ k. refl) n (n * n * n) 0 (n * n) _ i (n * n * n) (i - n * n) (omega arith) (omega arith)

  -- those of the board rows come next
  pub latin-row : (i j : ℕ) → n * n ≤ i → i - n * n ≡ j → j < n * n → slice_get (rows (latin n gs)) i ≡ Some (run_of (j / n * (n * n) + j % n) n n)
  latin-row i j l e h = past-places i l ∙ (nth-alike (in_row n) false (λ k. refl) n (n * n * n) 0 (n * n) _ (i - n * n) (n * n * n) j (omega arith) (omega arith) (omega arith) ∙ ap Some (row-run n j (n * n * n)))

  -- past the board rows
  past-rows : (i : ℕ) → 2 * (n * n) ≤ i → slice_get (rows (latin n gs)) i ≡ slice_get (rows_from n (n * n * n) (map (in_column n) (range_with_len 0 (n * n)) ++ map given_line gs)) (i - 2 * (n * n))
  past-rows i h = past-places i (omega arith) ∙ nth_after (in_row n) false (λ k. refl) n (n * n * n) 0 (n * n) _ (i - n * n) (n * n * n) (i - 2 * (n * n)) (omega arith) (omega arith)

  -- those of the columns come next
  pub latin-column : (i j : ℕ) → 2 * (n * n) ≤ i → i - 2 * (n * n) ≡ j → j < n * n → slice_get (rows (latin n gs)) i ≡ Some (run_of j (n * n) n)
  latin-column i j l e h = past-rows i l ∙ (nth-alike (in_column n) false (λ k. refl) n (n * n * n) 0 (n * n) _ (i - 2 * (n * n)) (n * n * n) j (omega arith) (omega arith) (omega arith) ∙ ap Some (column-run n j (n * n * n) some))

  -- the givens come last
  pub latin-given : (i j : ℕ) → latin_makeable n gs ≡ true → 3 * (n * n) ≤ i → i - 3 * (n * n) ≡ j → slice_get (rows (latin n gs)) i ≡ option_and_then (λ g. run_row (g.place * n + g.value) 1 1) (slice_get gs j)
  latin-given i j k l e =
      let m = few-cells n (makeable-size smallest largest (fits n (n * n)) n gs k).1 in
      past-rows i (omega arith)
      ∙ (nth_after (in_column n) false (λ k. refl) n (n * n * n) 0 (n * n) _ (i - 2 * (n * n)) (n * n * n) j (omega arith) (omega arith)
      ∙ nth-givens n (n * n) (omega arith) (n * n * n) gs j (makeable-fit smallest largest (fits n (n * n)) n gs k))

-- the symbols of a board row, as a part of the list
pub row-part : (n : ℕ) (a : List ℕ) (r : ℕ) → r < n → length a ≡ n * n → take (r * n + n - r * n) (drop (r * n) a) ≡ row_symbols n a r
row-part n a r h e =
    let q : r * n + n - r * n ≡ n = omega arith in
    let l : length (take n (drop (r * n) a)) ≡ n = length-take-le n (drop (r * n) a) (simp length-drop (let k = mul-le (suc r) n n n h (omega arith) in omega arith)) in
    rw q (fill_by_all (λ c. get_or a (r * n + c) 0) (take n (drop (r * n) a)) n 0 l (λ c k. rw (get_or-take, get_or-drop)))
