-- What refuses a row and a draw, and what is known where nothing does.
use Rattle.std.proofs.Common.{◌≡◌, ℕ, zero, suc, ◌+◌, ◌<◌, ◌≤◌, true, false, eqb, List, [], ◌∷◌, length, get_or, is_some, Some, None, refl, arith}
use Rattle.std.proofs.lemmas.Bool.Decides.{nat_tests}
use Rattle.rows.specs.declared.kinds.Kind.{Kind}
use Rattle.rows.specs.declared.kinds.Kind.TheVariants.{Cover, Clauses, Short, Triples}
use Rattle.rows.specs.declared.stops.Stop.TheVariants.{Row, Literal, Bill, Owed}
use Rattle.rows.specs.Bills.{shortest}
use Rattle.rows.specs.Firsts.{first_failing}
use Rattle.rows.specs.Kinds.{has_length, longest}
use Rattle.rows.specs.Stops.{here}
use Rattle.rows.specs.Truth.{first_wide}
use Rattle.solver.specs.Stops.{draw_stop, post_stop}

pub record Accepted (kind : Kind) (n : ℕ) (owed row : List ℕ) : Type 0 where
  pub fits : has_length kind (length row) ≡ true
  pub wide : first_wide n 0 row ≡ None
  pub owes : 0 < get_or owed (length row) 0

pub accepted : (kind : Kind) (n : ℕ) (owed row : List ℕ) → post_stop kind n owed row ≡ None → Accepted kind n owed row
accepted kind n owed row e = record {
  fits = grind (arith, nat_tests);
  wide = grind (arith, nat_tests);
  owes = grind (arith, nat_tests);
}

-- no row is longer than the longest
pub row-short : (kind : Kind) (k : ℕ) → has_length kind k ≡ true → k ≤ longest
row-short Cover k e = grind (arith, nat_tests)
row-short Clauses k e = grind (arith, nat_tests)
row-short Short k e = grind (arith, nat_tests)
row-short Triples k e = grind (arith, nat_tests)

-- where a row is owed, there is a shortest length
owed-from : (i : ℕ) (counts : List ℕ) (k : ℕ) → 0 < get_or counts k 0 → is_some (first_failing (λ c. eqb c 0) i counts) ≡ true
owed-from i [] k h = grind (arith, nat_tests)
owed-from i (c ∷ cs) zero h = grind (arith, nat_tests)
owed-from i (c ∷ cs) (suc k) h = let e = owed-from (i + 1) cs k h in grind (arith, nat_tests)

pub owed-some : (counts : List ℕ) (k : ℕ) → 0 < get_or counts k 0 → is_some (shortest counts) ≡ true
owed-some counts k h = owed-from 0 counts k h

-- where a draw meets no stop, nothing is owed
pub ready : (owed : List ℕ) → draw_stop owed ≡ None → shortest owed ≡ None
ready owed e = grind arith

-- what refuses a row, and when it is taken
module _ (kind : Kind) (n : ℕ) (owed row : List ℕ) where
  pub refused-by-length : has_length kind (length row) ≡ false → post_stop kind n owed row ≡ Some (here (Row (length row)))
  refused-by-length e = rw e refl

  pub refused-by-literal : has_length kind (length row) ≡ true → (i : ℕ) → first_wide n 0 row ≡ Some i → post_stop kind n owed row ≡ Some (here (Literal i))
  refused-by-literal e i f = rw (e, f) refl

  pub refused-by-bill : has_length kind (length row) ≡ true → first_wide n 0 row ≡ None → eqb (get_or owed (length row) 0) 0 ≡ true → post_stop kind n owed row ≡ Some (here (Bill (length row)))
  refused-by-bill e f b = rw (e, f, b) refl

  pub not-refused : has_length kind (length row) ≡ true → first_wide n 0 row ≡ None → eqb (get_or owed (length row) 0) 0 ≡ false → post_stop kind n owed row ≡ None
  not-refused e f b = rw (e, f, b) refl

-- what refuses a draw
pub refused-while-owed : (owed : List ℕ) (k : ℕ) → shortest owed ≡ Some k → draw_stop owed ≡ Some (here (Owed k))
refused-while-owed owed k e = rw e refl
