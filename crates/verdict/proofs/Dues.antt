-- The bill of the rows still to be posted, as each post makes it shorter.
use Rattle.std.proofs.Common.{◌≡◌, ℕ, ◌-◌, ◌<◌, false, cond, eqb, List, ◌∷◌, length, get_or, set, sym, ◌∙◌, ⊎_elim, arith}
use Rattle.std.proofs.lemmas.Bool.{cases_eq}
use Rattle.std.proofs.lemmas.Bool.Decides.{nat_tests}
use Rattle.std.proofs.lemmas.List.{ext_get_or, get_or-set_same, get_or-set_other, length-set}
use Rattle.rows.specs.Kinds.{lengths}
use Rattle.rows.specs.Bills.{bill_of}
use Rattle.rows.proofs.Tallies.{bill-at, bill-length}

-- one less at a place of a list
set-less : (xs : List ℕ) (i k : ℕ) → i < length xs → get_or (set xs i (get_or xs i 0 - 1)) k 0 ≡ get_or xs k 0 - cond (eqb i k) 1 0
set-less xs i k h = ⊎_elim
    (λ (e : k ≡ i). rw (e, get_or-set_same xs i (get_or xs i 0 - 1) 0 h) (grind (arith, nat_tests)))
    (λ (n : k ≡ i → ⊥). rw (get_or-set_other xs i k (get_or xs i 0 - 1) 0 n) (grind (arith, nat_tests)))
    (cases_eq k i)

-- without its first row
pub bill-less : (row : List ℕ) (rows : List (List ℕ)) → length row < lengths → set (bill_of (row ∷ rows)) (length row) (get_or (bill_of (row ∷ rows)) (length row) 0 - 1) ≡ bill_of rows
bill-less row rows h =
    let n = bill-length (row ∷ rows) in
    let l = length-set (bill_of (row ∷ rows)) (length row) (get_or (bill_of (row ∷ rows)) (length row) 0 - 1) in
    ext_get_or 0 (set (bill_of (row ∷ rows)) (length row) (get_or (bill_of (row ∷ rows)) (length row) 0 - 1)) (bill_of rows)
    (l ∙ (n ∙ sym (bill-length rows)))
    (λ k j.
    let m : k < lengths = omega arith in
    let e = bill-at (row ∷ rows) k m in
    let f = bill-at rows k m in
    set-less (bill_of (row ∷ rows)) (length row) k (omega arith) ∙ (rw (e, f) (grind (arith, nat_tests))))

-- a row of the first row's length is owed
pub bill-owes : (row : List ℕ) (rows : List (List ℕ)) → length row < lengths → eqb (get_or (bill_of (row ∷ rows)) (length row) 0) 0 ≡ false
bill-owes row rows h = rw (bill-at (row ∷ rows) (length row) h) (grind (arith, nat_tests))
