-- One bill added to another so many times, and bills below as they grow length by length.
use Rattle.std.proofs.Common.{◌≡◌, ℕ, ◌+◌, ◌*◌, ◌<◌, ◌≤◌, cond, List, length, nat_lt, slice_index, slice_set, refl, ap, ◌∙◌, ⊎_elim, arith, mul-zero, length-set}
use Rattle.std.proofs.lemmas.Bool.{cases_eq, lt-ltb, le-ltb}
use Rattle.std.proofs.lemmas.Bool.Decides.{nat_tests}
use Rattle.std.proofs.lemmas.List.{get_or_past, get_or-set_same, get_or-set_other}

-- the counts of the lengths before i are added
pub record Adding (old cost now : List ℕ) (times i : ℕ) : Type 0 where
  pub size : length now ≡ length old
  pub at : (l : ℕ) → slice_index now l ≡ slice_index old l + cond (nat_lt l i) (times * slice_index cost l) 0

pub adding-start : (old cost : List ℕ) (times : ℕ) → Adding old cost old times 0
adding-start old cost times = record { size = refl; at = λ l. grind (arith, nat_tests) }

module _ (old cost now : List ℕ) (times i : ℕ) (a : Adding old cost now times i) where
  pub adding-here : slice_index now i ≡ slice_index old i
  adding-here = let e = a.at i in grind (arith, nat_tests)

  pub adding-more : i < length now → Adding old cost (slice_set now i (slice_index now i + times * slice_index cost i)) times (i + 1)
  adding-more h = record {
    size = length-set now i (slice_index now i + times * slice_index cost i) ∙ a.size;
    at = λ l. ⊎_elim
        (λ (e : l ≡ i). rw (e, lt-ltb i (i + 1) (omega arith)) (get_or-set_same now i (slice_index now i + times * slice_index cost i) 0 h ∙ ap (λ x. x + times * slice_index cost i) adding-here))
        (λ (n : l ≡ i → ⊥). let e = get_or-set_other now i l (slice_index now i + times * slice_index cost i) 0 n in let f = a.at l in grind (arith, nat_tests))
        (cases_eq l i);
  }

  pub adding-end : length cost ≤ i → (l : ℕ) → slice_index now l ≡ slice_index old l + times * slice_index cost l
  adding-end h l = ⊎_elim
      (λ (e : l < i). a.at l ∙ rw (lt-ltb l i e))
      (λ (e : i ≤ l). let z = get_or_past cost l 0 (omega arith) in a.at l ∙ rw (le-ltb l i e, z, mul-zero))
      (Rattle.std.proofs.lemmas.Bool.cases_lt l i)
