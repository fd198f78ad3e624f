-- The bill of a list of rows, as a loop over the rows makes it.
use Rattle.std.proofs.Common.{◌≡◌, ℕ, ◌+◌, ◌<◌, ◌≤◌, Bool, cond, eqb, List, [], ◌∷◌, ◌++◌, map, length, get_or, set, replicate, sym, refl, ap, ◌∙◌, arith}
use Rattle.std.proofs.lemmas.Bool.Decides.{nat_tests}
use Rattle.std.proofs.lemmas.Grind.{get_or-set_at}
use Rattle.std.proofs.lemmas.List.{ext_get_or, get_or-set_other, length-set, map_push}
use Rattle.std.proofs.lemmas.List.FromFn.{length-map-range_with_len, get_or-map-range_with_len}
use Rattle.rows.specs.Kinds.{lengths}
use Rattle.rows.specs.Truth.{trues}
use Rattle.rows.specs.Bills.{rows_of_length, bill_of}

-- how many are true in two lists
pub trues-append : (xs ys : List Bool) → trues (xs ++ ys) ≡ trues xs + trues ys
trues-append [] ys = omega arith
trues-append (x ∷ xs) ys = let e = trues-append xs ys in omega arith

-- one row more counts at its own length
pub rows-push : (rows : List (List ℕ)) (row : List ℕ) (k : ℕ) → rows_of_length (rows ++ row ∷ []) k ≡ rows_of_length rows k + cond (eqb (length row) k) 1 0
rows-push rows row k = ap trues (map_push (λ (r : List ℕ). eqb (length r) k) rows row) ∙ (trues-append (map (λ (r : List ℕ). eqb (length r) k) rows) (eqb (length row) k ∷ []) ∙ omega arith)

rows_few : (rows : List (List ℕ)) (k : ℕ) → rows_of_length rows k ≤ length rows
rows_few [] k = omega arith
rows_few (row ∷ rows) k = let h = rows_few rows k in grind (arith, nat_tests)

pub bill-length : (rows : List (List ℕ)) → length (bill_of rows) ≡ lengths
unfolding bill_of
bill-length rows = length-map-range_with_len (rows_of_length rows) 0 lengths

pub bill-at : (rows : List (List ℕ)) (k : ℕ) → k < lengths → get_or (bill_of rows) k 0 ≡ rows_of_length rows k
unfolding bill_of
bill-at rows k h = get_or-map-range_with_len (rows_of_length rows) 0 lengths k k 0 h (omega arith)

-- a count is at most the number of rows
pub bill-few : (rows : List (List ℕ)) (k : ℕ) → k < lengths → get_or (bill_of rows) k 0 ≤ length rows
bill-few rows k h = rw (bill-at rows k h) (rows_few rows k)

pub bill-none : bill_of [] ≡ replicate lengths 0
unfolding bill_of
bill-none = refl

-- one more at a place of a list
set_more : (xs : List ℕ) (i k : ℕ) → i < length xs → get_or (set xs i (get_or xs i 0 + 1)) k 0 ≡ get_or xs k 0 + cond (eqb i k) 1 0
set_more xs i k h = grind (arith, nat_tests, get_or-set_at, get_or-set_other)

-- one row more raises the count of its length by one
pub bill-push : (rows : List (List ℕ)) (row : List ℕ) → length row < lengths → bill_of (rows ++ row ∷ []) ≡ set (bill_of rows) (length row) (get_or (bill_of rows) (length row) 0 + 1)
bill-push rows row h =
    ext_get_or 0 (bill_of (rows ++ row ∷ [])) (set (bill_of rows) (length row) (get_or (bill_of rows) (length row) 0 + 1))
    (bill-length (rows ++ row ∷ []) ∙ sym (length-set (bill_of rows) (length row) _ ∙ bill-length rows))
    (λ k l.
    let m : k < lengths = omega (arith, bill-length (rows ++ row ∷ [])) in
    let e = bill-at (rows ++ row ∷ []) k m ∙ rows-push rows row k in
    let f = bill-at rows k m in
    e ∙ (ap (λ (n : ℕ). n + cond (eqb (length row) k) 1 0) (sym f) ∙ sym (set_more (bill_of rows) (length row) k (omega (arith, bill-length rows)))))
