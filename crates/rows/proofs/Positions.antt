-- A loop over the positions of a row that counts the true ones and stops at the first literal that is too wide.
use Rattle.std.proofs.Common.{◌≡◌, ℕ, ◌+◌, ◌<◌, ◌≤◌, Bool, true, false, cond, List, length, get_or, drop, Some, None, Ok, Err, Option, refl, ap, ◌∙◌, arith}
use Rattle.std.proofs.lemmas.Bool.Decides.{nat_tests}
use Rattle.std.proofs.lemmas.List.{at_drop_more, at_drop_all}
use Rattle.rows.specs.declared.stops.Stop.TheVariants.{Literal}
use Rattle.rows.specs.Stops.{here}
use Rattle.rows.specs.Truth.{valuation, truths, trues, first_wide}
use Rattle.rows.specs.Judging.{truth_in, counted}

-- before position i no literal is too wide, and n positions are true
pub record Counting (xs : List Bool) (row : List ℕ) (i n : ℕ) : Type 0 where
  pub few : n ≤ i
  pub wide : first_wide (length xs) 0 row ≡ first_wide (length xs) i (drop i row)
  pub count : trues (truths (valuation xs) row) ≡ n + trues (truths (valuation xs) (drop i row))

-- at the first position none are counted
pub counting-start : (xs : List Bool) (row : List ℕ) → Counting xs row 0 0
counting-start xs row = record { few = omega arith; wide = refl; count = omega arith }

-- where a value that is kept only if a test passes is there, the test passes and it is that value
pub known_some : (c x b : Bool) → ◌≡◌ {A = Option Bool} (cond c (Some x) None) (Some b) → (c ≡ true) × (x ≡ b)
known_some true x b e = (refl, cc)
known_some false x b e = cc

-- where it is not there, the test fails
pub known-none : (c x : Bool) → ◌≡◌ {A = Option Bool} (cond c (Some x) None) None → c ≡ false
known-none true x e = cc
known-none false x e = refl

pub counting-step : (xs : List Bool) (row : List ℕ) (i n : ℕ) (b : Bool) → i < length row → truth_in xs (get_or row i 0) ≡ Some b → Counting xs row i n → Counting xs row (i + 1) (n + cond b 1 0)
counting-step xs row i n b h t k =
    let w = at_drop_more (λ (r : List ℕ). first_wide (length xs) i r) row i 0 h in
    let s = at_drop_more (λ (r : List ℕ). trues (truths (valuation xs) r)) row i 0 h in
    record { few = grind (arith, nat_tests); wide = k.wide ∙ (w ∙ grind (arith, nat_tests)); count = k.count ∙ (ap (λ (m : ℕ). n + m) s ∙ grind (arith, nat_tests)) }

pub counting-stop : (xs : List Bool) (row : List ℕ) (i n : ℕ) → i < length row → truth_in xs (get_or row i 0) ≡ None → Counting xs row i n → counted xs row ≡ Err (here (Literal i))
counting-stop xs row i n h t k =
    let w = at_drop_more (λ (r : List ℕ). first_wide (length xs) i r) row i 0 h in
    let e : first_wide (length xs) 0 row ≡ Some i = k.wide ∙ (w ∙ grind (arith, nat_tests)) in
    rw e

pub counting-end : (xs : List Bool) (row : List ℕ) (i n : ℕ) → length row ≤ i → Counting xs row i n → counted xs row ≡ Ok n
counting-end xs row i n h k =
    let w : first_wide (length xs) 0 row ≡ None = k.wide ∙ at_drop_all (λ (r : List ℕ). first_wide (length xs) i r) row i h in
    let s = at_drop_all (λ (r : List ℕ). trues (truths (valuation xs) r)) row i h in
    let e : trues (truths (valuation xs) row) ≡ n = omega (arith, k.count, s) in
    rw (w, e)
