-- The rows of queens, one section after the other.
use Rattle.std.proofs.Common.{◌≡◌, ℕ, ◌+◌, ◌-◌, ◌*◌, ◌<◌, ◌≤◌, true, false, List, [], ◌∷◌, ◌++◌, map, length, get_or, Some, None, refl, ap, ◌∙◌, add-zero, arith}
use Rattle.std.specs.Option.{option_and_then, option_map}
use Rattle.std.proofs.lemmas.Nat.{mul-le}
use Rattle.std.specs.List.{range_with_len, slice_get}
use Rattle.std.proofs.lemmas.List.FromFn.{length-map-range_with_len}
use Rattle.std.proofs.lemmas.List.{length-append, length-map}
use Rattle.std.proofs.lemmas.Option.{slice_get_read, slice_get_past}
use Rattle.puzzles.specs.Filling.{run_of, run_row}
use Rattle.puzzles.specs.Givens.{fits, given_line}
use Rattle.puzzles.specs.Boards.{rows, vars}
use Rattle.puzzles.specs.Lines.{Line, row_of, rows_from, value_lines}
use Rattle.puzzles.specs.declared.givens.Given.{Given}
use Rattle.puzzles.proofs.Made.{makeable-size, makeable-fit}
use Rattle.puzzles.proofs.LineRows.{given-rows, length-rows, nth-alike, nth-givens, nth_after, place_line, slacks-alike, slacks-append, slacks-givens, value_line}
use Rattle.puzzles.proofs.Runs.{place-run, value-run}
use Rattle.queens.specs.Queens.{falling, largest, queens, queens_lines, queens_makeable, rising, smallest}

-- the lines from the rising diagonals on
abbrev from_rising : ℕ → List Given → List Line
from_rising n gs = map (rising n) (range_with_len 1 (2 * n - 3)) ++ map given_line gs

-- the lines from the falling diagonals on
abbrev from_falling : ℕ → List Given → List Line
from_falling n gs = map (falling n) (range_with_len 2 (2 * n - 3)) ++ from_rising n gs

-- the rows by index: w is the number of diagonals of one way, and j counts from the first of them
module _ (n : ℕ) (gs : List Given) where
  -- how many variables there are
  pub queens-vars : vars (queens n gs) ≡ n * n + 2 * (2 * n - 3)
  queens-vars =
      simp (slacks-append, slacks-givens)
      (omega (arith, slacks-alike (place_line n) false (λ k. refl) 0 n, slacks-alike (value_line n) false (λ k. refl) 0 n, slacks-alike (falling n) true (λ k. refl) 2 (2 * n - 3), slacks-alike (rising n) true (λ k. refl) 1 (2 * n - 3)))

  -- how many rows there are
  pub queens-length : length (rows (queens n gs)) ≡ 2 * n + 2 * (2 * n - 3) + length gs
  queens-length = length-rows n (n * n) (queens_lines n gs) ∙ simp (length-append, length-map-range_with_len, length-map) (omega arith)

  -- the rows of the places come first
  pub queens-place : (i : ℕ) → i < n → slice_get (rows (queens n gs)) i ≡ Some (run_of (i * n) 1 n)
  queens-place i h = nth-alike (place_line n) false (λ k. refl) n (n * n) 0 n _ i (n * n) i h (omega arith) (omega arith) ∙ ap Some (place-run n i (n * n))

  -- past the places
  past-places : (i : ℕ) → n ≤ i → slice_get (rows (queens n gs)) i ≡ slice_get (rows_from n (n * n) (value_lines n n ++ from_falling n gs)) (i - n)
  past-places i h = nth_after (place_line n) false (λ k. refl) n (n * n) 0 n _ i (n * n) (i - n) (omega arith) (omega arith)

  -- the columns come next
  pub queens-column : (i : ℕ) → n ≤ i → i < 2 * n → slice_get (rows (queens n gs)) i ≡ Some (run_of (i - n) n n)
  queens-column i l h = past-places i l ∙ (nth-alike (value_line n) false (λ k. refl) n (n * n) 0 n _ (i - n) (n * n) (i - n) (omega arith) (omega arith) (omega arith) ∙ ap Some (value-run n n (i - n) (n * n)))

  -- past the columns
  past-columns : (i : ℕ) → 2 * n ≤ i → slice_get (rows (queens n gs)) i ≡ slice_get (rows_from n (n * n) (from_falling n gs)) (i - 2 * n)
  past-columns i h = past-places i (omega arith) ∙ nth_after (value_line n) false (λ k. refl) n (n * n) 0 n _ (i - n) (n * n) (i - 2 * n) (omega arith) (omega arith)

  -- the falling diagonals come next
  pub queens-falling : (i j : ℕ) → 2 * n ≤ i → i - 2 * n ≡ j → j < 2 * n - 3 → slice_get (rows (queens n gs)) i ≡ Some (row_of n (n * n + j) (falling n (j + 2)))
  queens-falling i j l e h = past-columns i l ∙ nth-alike (falling n) true (λ k. refl) n (n * n) 2 (2 * n - 3) _ (i - 2 * n) (n * n + j) (j + 2) (omega arith) (omega arith) (omega arith)

  -- past the falling diagonals
  past-falling : (i j w : ℕ) → 2 * n ≤ i → i - 2 * n ≡ j → 2 * n - 3 ≡ w → w ≤ j → slice_get (rows (queens n gs)) i ≡ slice_get (rows_from n (n * n + w) (from_rising n gs)) (j - w)
  past-falling i j w l e f h = past-columns i l ∙ nth_after (falling n) true (λ k. refl) n (n * n) 2 (2 * n - 3) _ (i - 2 * n) (n * n + w) (j - w) (omega arith) (omega arith)

  -- the rising ones come next
  pub queens-rising : (i j w : ℕ) → 2 * n ≤ i → i - 2 * n ≡ w + j → 2 * n - 3 ≡ w → j < w → slice_get (rows (queens n gs)) i ≡ Some (row_of n (n * n + (2 * n - 3) + j) (rising n (j + 1)))
  queens-rising i j w l e f h = past-falling i (w + j) w l e f (omega arith) ∙ nth-alike (rising n) true (λ k. refl) n (n * n + w) 1 (2 * n - 3) _ (w + j - w) (n * n + (2 * n - 3) + j) (j + 1) (omega arith) (omega arith) (omega arith)

  -- past the rising ones
  past-rising : (i j w : ℕ) → 2 * n ≤ i → i - 2 * n ≡ j → 2 * n - 3 ≡ w → 2 * w ≤ j → slice_get (rows (queens n gs)) i ≡ option_map (λ g. 2 * (g.place * n + g.value) ∷ []) (slice_get gs (j - 2 * w))
  past-rising i j w l e f h =
      past-falling i j w l e f (omega arith)
      ∙ (nth_after (rising n) true (λ k. refl) n (n * n + w) 1 (2 * n - 3) _ (j - w) (n * n + 2 * w) (j - 2 * w) (omega arith) (omega arith)
      ∙ given-rows n (n * n + 2 * w) gs (j - 2 * w))

  -- the givens come last
  pub queens-given-run : (i j w : ℕ) (g : Given) → 2 * n ≤ i → i - 2 * n ≡ j → 2 * n - 3 ≡ w → 2 * w ≤ j → j - 2 * w < length gs → g ≡ get_or gs (j - 2 * w) g → slice_get (rows (queens n gs)) i ≡ Some (run_of (g.place * n + g.value) 1 1)
  queens-given-run i j w g l e f h u k = past-rising i j w l e f h ∙ rw (slice_get_read gs (length gs) (j - 2 * w) g refl u k, add-zero)

  -- past the givens there is no row
  pub queens-past : (i j w : ℕ) → 2 * n ≤ i → i - 2 * n ≡ j → 2 * n - 3 ≡ w → 2 * w ≤ j → length gs ≤ j - 2 * w → slice_get (rows (queens n gs)) i ≡ None
  queens-past i j w l e f h u = past-rising i j w l e f h ∙ rw (slice_get_past gs (j - 2 * w) u)

  -- both, for givens that are on the board
  pub queens-given : (i j w : ℕ) → queens_makeable n gs ≡ true → 2 * n ≤ i → i - 2 * n ≡ j → 2 * n - 3 ≡ w → 2 * w ≤ j → slice_get (rows (queens n gs)) i ≡ option_and_then (λ g. run_row (g.place * n + g.value) 1 1) (slice_get gs (j - 2 * w))
  queens-given i j w k l e f h =
      let s = (makeable-size smallest largest (fits n n) n gs k).1 in
      let m = mul-le n n largest largest s s in
      past-falling i j w l e f (omega arith)
      ∙ (nth_after (rising n) true (λ k. refl) n (n * n + w) 1 (2 * n - 3) _ (j - w) (n * n + 2 * w) (j - 2 * w) (omega arith) (omega arith)
      ∙ nth-givens n n (omega arith) (n * n + 2 * w) gs (j - 2 * w) (makeable-fit smallest largest (fits n n) n gs k))
