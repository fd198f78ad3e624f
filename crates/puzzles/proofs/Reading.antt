-- Reading the rows of a puzzle one by one.
use Rattle.std.proofs.Common.{◌≡◌, ℕ, ◌+◌, ◌<◌, ◌≤◌, List, [], ◌∷◌, ◌++◌, length, get_or, set, drop, Option, sym, ap, ◌∙◌, add-one, add-zero, append-nil, append_assoc, arith}
use Rattle.std.specs.Iterator.{YieldsFirst}
use Rattle.std.specs.List.{slice_get}
use Rattle.std.proofs.lemmas.Option.{slice_get-get_or}
use Rattle.std.proofs.Math.Seq.{drop-cons}
use Rattle.std.proofs.lemmas.List.{length-append, get_or-append-add}
use Rattle.rows.specs.Kinds.{longest}
use Rattle.rows.specs.Bills.{bill_of}
use Rattle.rows.proofs.Tallies.{bill-few, bill-push}

-- the row of an index is the first of those that are left from it on
pub next-row : (rows left : List (List ℕ)) (start i next : ℕ) (o : Option (List ℕ)) → left ≡ drop start rows → i ≡ start → next ≡ i + 1 → i < length rows → o ≡ slice_get rows i → YieldsFirst {S = List (List ℕ)} (λ r. r) left o (drop next rows)
next-row rows left start i next o e f n h r = rw (r, e, n, ← f, slice_get-get_or rows i [] h, add-one) (drop-cons rows i [] h)

-- a loop over the rows, where those so far and those that are left are all, and row is the first that is left
module _ (rows so_far left rest : List (List ℕ)) (row : List ℕ) (whole : so_far ++ left ≡ rows) (turn : left ≡ row ∷ rest) where
  -- row is that of the number of those so far
  pub row-of-turn : (length so_far < length rows) × (row ≡ get_or rows (length so_far) [])
  row-of-turn = rw (← whole, turn) (omega (arith, length-append so_far (row ∷ rest)), sym (rw add-zero at (get_or-append-add so_far (row ∷ rest) 0 [])))

  -- after it those so far and those that are left are all
  pub after-turn : so_far ++ row ∷ [] ++ rest ≡ rows
  after-turn = append_assoc so_far (row ∷ []) rest ∙ (ap (λ xs. so_far ++ xs) (sym turn) ∙ whole)

-- where none is left, those so far are all
pub whole-at-end : (rows so_far left : List (List ℕ)) → so_far ++ left ≡ rows → left ≡ [] → so_far ≡ rows
whole-at-end rows so_far left e f = sym (append-nil so_far) ∙ (ap (λ xs. so_far ++ xs) (sym f) ∙ e)

-- one row more in a bill that is tallied row by row
pub tally-step : (rows : List (List ℕ)) (counts row : List ℕ) → length row ≤ longest → counts ≡ bill_of rows → set counts (length row) (get_or counts (length row) 0 + 1) ≡ bill_of (rows ++ row ∷ [])
tally-step rows counts row l t = rw t (sym (bill-push rows row (omega arith)))

-- and its count is still small
pub tally-fits : (rows : List (List ℕ)) (k : ℕ) (counts : List ℕ) → k ≤ longest → counts ≡ bill_of rows → get_or counts k 0 ≤ length rows
tally-fits rows k counts h t = rw t (bill-few rows k (omega arith))
