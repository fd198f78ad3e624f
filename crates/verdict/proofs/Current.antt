-- The answer of a solution, value by value.
use Rattle.std.proofs.Common.{◌≡◌, ℕ, zero, suc, ◌+◌, ◌*◌, ◌<◌, ◌≤◌, Bool, true, false, eqb, List, length, get_or, set, Some, None, Option, refl, sym, ap, ◌∙◌, subst, ⊎_elim, true≢false, arith}
use Rattle.std.specs.List.{find, range_with_len}
use Rattle.std.specs.Option.{option_map, unwrap_or}
use Rattle.std.specs.Str.{bytes_eq}
use Rattle.std.proofs.lemmas.Bool.{cases_Bool, cases_lt, eqb-true, eq-eqb}
use Rattle.std.proofs.lemmas.Bool.Decides.{nat_tests}
use Rattle.std.proofs.lemmas.List.{ext_get_or, get_or-set_same, get_or-set_other}
use Rattle.std.proofs.lemmas.Slice.Eq.{bytes_eq-Decides}
use Rattle.puzzles.specs.Boards.{Board, Lined, decode, solution}
use Rattle.puzzles.proofs.Blocks.{length-values}
use Rattle.puzzles.proofs.Law.{parts, on-board, decoded-fills, lined-are-faithful}

-- the first number of a range that passes, where only one does
pub find-only : (test : ℕ → Bool) (v a n : ℕ) → a ≤ v → v < a + n → ((w : ℕ) → a ≤ w → w < a + n → test w ≡ eqb v w) → find test (range_with_len a n) ≡ Some v
find-only test v a zero h k e = absurd (omega arith)
find-only test v a (suc n) h k e = ⊎_elim {C = find test (range_with_len a (suc n)) ≡ Some v}
    (λ (l : test a ≡ true). let m = eqb-true v a (sym (e a (omega arith) (omega arith)) ∙ l) in rw (l, m) refl)
    (λ (l : test a ≡ false). let m : eqb v a ≡ false = sym (e a (omega arith) (omega arith)) ∙ l in let u : a + 1 ≤ v = grind (arith, nat_tests) in rw l (find-only test v (a + 1) n u (omega arith) (λ w i j. e w (omega arith) (omega arith))))
    (cases_Bool (test a))

-- what is found, and 0 where nothing is
pub found-value : (o : Option ℕ) (v : ℕ) → option_map (λ x. x) o ≡ Some v → unwrap_or o 0 ≡ v
found-value (Some x) v e = cc
found-value None v e = absurd (cc)

-- a list is told apart from another by one place
pub differs-at : (a c : List ℕ) (p : ℕ) → eqb (get_or a p 0) (get_or c p 0) ≡ false → bytes_eq a c ≡ false
differs-at a c p e = ⊎_elim {C = bytes_eq a c ≡ false}
    (λ (t : bytes_eq a c ≡ true). let s = eq-eqb _ _ (ap (λ (d : List ℕ). get_or d p 0) ((bytes_eq-Decides a c).0 t)) in absurd (true≢false (sym s ∙ e)))
    (λ (f : bytes_eq a c ≡ false). f)
    (cases_Bool (bytes_eq a c))

-- the places of two lists up to one more
pub values-more : (a c : List ℕ) (i : ℕ) → ((p : ℕ) → p < i → get_or a p 0 ≡ get_or c p 0) → get_or a i 0 ≡ get_or c i 0 → (p : ℕ) → p < i + 1 → get_or a p 0 ≡ get_or c p 0
values-more a c i so_far next p h = ⊎_elim {C = get_or a p 0 ≡ get_or c p 0} (λ (l : p < i). so_far p l) (λ (l : i ≤ p). subst (λ (k : ℕ). get_or a k 0 ≡ get_or c k 0) (omega arith) next) (cases_lt p i)

-- and where one more is written
pub written-more : (a c : List ℕ) (i v : ℕ) → i < length a → ((p : ℕ) → p < i → get_or a p 0 ≡ get_or c p 0) → v ≡ get_or c i 0 → (p : ℕ) → p < i + 1 → get_or (set a i v) p 0 ≡ get_or c p 0
written-more a c i v k so_far next = values-more (set a i v) c i (λ p h. get_or-set_other a i p v 0 (λ (e : p ≡ i). omega arith) ∙ so_far p h) (get_or-set_same a i v 0 k ∙ next)

-- a solution of a board, by the answer that it decodes to
module _ (b : Board) (lined : Lined b) (xs : List Bool) (solved : solution b xs ≡ true) where
  -- each value of it is on the board
  pub value-below : (p : ℕ) → p < b.places → get_or (decode b xs) p 0 < b.size
  value-below p h = on-board b lined (decode b xs) ((lined-are-faithful b lined).decodes xs solved).0 p h

  -- a list with its value at each place is that answer
  pub same-values : (a : List ℕ) (n : ℕ) → length a ≡ n → n ≡ b.places → ((p : ℕ) → p < n → get_or a p 0 ≡ get_or (decode b xs) p 0) → a ≡ decode b xs
  same-values a n l m e = ext_get_or 0 a (decode b xs) (l ∙ m ∙ sym (length-values b.size b.places xs)) (λ p h. e p (omega arith))

  -- whether an answer has its value at a place
  pub same-value : (a : List ℕ) (p size : ℕ) (t : Bool) → b.answer a ≡ true → p < length a → size ≡ b.size → t ≡ get_or xs (p * size + get_or a p 0) false → t ≡ eqb (get_or (decode b xs) p 0) (get_or a p 0)
  same-value a p size t e h m read =
      let l = (parts b lined a e).0 in
      let k : p < b.places = omega arith in
      read ∙ rw m (decoded-fills b lined xs solved p (get_or a p 0) k (on-board b lined a e p k))

  -- an answer with the same value at each place
  pub same-answer : (a : List ℕ) (n : ℕ) → b.answer a ≡ true → n ≡ length a → ((p : ℕ) → p < n → get_or (decode b xs) p 0 ≡ get_or a p 0) → bytes_eq (decode b xs) a ≡ true
  same-answer a n e m k =
      let l = (parts b lined a e).0 in
      (bytes_eq-Decides (decode b xs) a).1 (sym (same-values a n (sym m) (m ∙ l) (λ p h. sym (k p h))))
