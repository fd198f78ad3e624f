-- The bill below, as it grows length by length, and that its counts stay small.
use Rattle.std.proofs.Common.{◌≡◌, ℕ, zero, suc, ◌+◌, ◌*◌, ◌^◌, ◌<◌, ◌≤◌, Bool, true, false, cond, ◌&&◌, ◌||◌, List, [], ◌∷◌, ◌++◌, length, take, replicate, nat_le, None, slice_index, sym, refl, ap, ◌∙◌, ⊎_elim, arith, add-zero, zero-add, zero-mul, mul-le-mul}
use Rattle.std.proofs.lemmas.Bool.{and_parts, and_from, cases_Bool, cases_lt, eqb-true, le-leb, leb-true, or_cases}
use Rattle.std.proofs.lemmas.Bool.Decides.{nat_tests}
use Rattle.std.proofs.lemmas.List.{get_or-replicate, get_or_past, length-replicate, length-take-le, take_more}
use Rattle.std.proofs.lemmas.List.FromFn.{get_or-map-range_with_len, length-map-range_with_len}
use Rattle.rows.specs.declared.kinds.Kind.{Kind}
use Rattle.rows.specs.Bills.{counts_within, most_rows}
use Rattle.rows.specs.Kinds.{has_length, lengths}
use Rattle.rows.specs.Literals.{within}
use Rattle.reductions.specs.Bills.{bill_below, charged, cost, helped, occurs, own_stop}
use Rattle.reductions.specs.Rules.{Exact, Rule, lengths_below, most_made}
use Rattle.reductions.specs.laws.Charging.{is-below}

-- what a bill within the limits says of its counts
legal-from : (q : Kind) (j : ℕ) (b : List ℕ) → counts_within q j b ≡ true → (k : ℕ) → 0 < slice_index b k → has_length q (j + k) ≡ true
legal-from q j [] e k h = absurd (omega arith)
legal-from q j (c ∷ b) e zero h = rw add-zero (⊎_elim (λ t. absurd (let z = eqb-true c 0 t in omega arith)) (λ t. t) (or_cases _ _ (and_parts _ _ (and_parts _ _ e).0).1))
legal-from q j (c ∷ b) e (suc k) h = let f : j + 1 + k ≡ j + suc k = omega arith in rw (← f) (legal-from q (j + 1) b (and_parts _ _ e).1 k h)

pub legal : (q : Kind) (b : List ℕ) → counts_within q 0 b ≡ true → (k : ℕ) → 0 < slice_index b k → has_length q k ≡ true
legal q b e k h = rw zero-add at (legal-from q 0 b e k h)

limit : (q : Kind) (j : ℕ) (b : List ℕ) → counts_within q j b ≡ true → (k : ℕ) → slice_index b k ≤ most_rows
limit q j [] e k = omega arith
limit q j (c ∷ b) e zero = leb-true c most_rows (and_parts _ _ (and_parts _ _ e).0).0
limit q j (c ∷ b) e (suc k) = limit q (j + 1) b (and_parts _ _ e).1 k

within-take : (q : Kind) (j : ℕ) (b : List ℕ) (n : ℕ) → counts_within q j b ≡ true → counts_within q j (take n b) ≡ true
within-take q j b zero e = refl
within-take q j [] (suc n) e = refl
within-take q j (c ∷ b) (suc n) e = let (p, r) = and_parts _ _ e in and_from _ _ p (within-take q (j + 1) b n r)

occurs-few : (l : ℕ) (ks : List ℕ) → occurs l ks ≤ length ks
occurs-few l [] = omega arith
occurs-few l (k ∷ ks) = let e = occurs-few l ks in grind (arith, nat_tests)

charged-push : (t : Rule) (l j : ℕ) (b : List ℕ) (c : ℕ) → charged t l j (b ++ c ∷ []) ≡ charged t l j b + c * occurs l (lengths_below t (j + length b))
charged-push t l j [] c = let e : j + length {A = ℕ} [] ≡ j = omega arith in rw e (omega arith)
charged-push t l j (x ∷ b) c = let e = charged-push t l (j + 1) b c in let f : j + 1 + length b ≡ j + suc (length b) = omega arith in rw (← f) (omega arith)

helped-push : (t : Rule) (j : ℕ) (b : List ℕ) (c : ℕ) → helped t j (b ++ c ∷ []) ≡ helped t j b + c * t.helpers (j + length b)
helped-push t j [] c = let e : j + length {A = ℕ} [] ≡ j = omega arith in rw e (omega arith)
helped-push t j (x ∷ b) c = let e = helped-push t (j + 1) b c in let f : j + 1 + length b ≡ j + suc (length b) = omega arith in rw (← f) (omega arith)

charged-more : (t : Rule) (l : ℕ) (b : List ℕ) (k : ℕ) → k < length b → charged t l 0 (take (k + 1) b) ≡ charged t l 0 (take k b) + slice_index b k * occurs l (lengths_below t k)
charged-more t l b k h =
    let e : 0 + length (take k b) ≡ k = omega (arith, length-take-le k b (omega arith)) in
    rw (take_more b k 0 h, charged-push t l 0 (take k b) (slice_index b k), e)

helped-more : (t : Rule) (b : List ℕ) (k : ℕ) → k < length b → helped t 0 (take (k + 1) b) ≡ helped t 0 (take k b) + slice_index b k * t.helpers k
helped-more t b k h =
    let e : 0 + length (take k b) ≡ k = omega (arith, length-take-le k b (omega arith)) in
    rw (take_more b k 0 h, helped-push t 0 (take k b) (slice_index b k), e)

-- a count within the limits times what a legal length costs
few : (c f : ℕ) → c ≤ most_rows → (0 < c → f ≤ most_made) → c * f ≤ most_rows * most_made
few c f a h = ⊎_elim (λ z. mul-le-mul a (h z)) (λ z. let e : c ≡ 0 = omega arith in rw (e, zero-mul) (omega arith)) (cases_lt 0 c)

module _ (t : Rule) (x : Exact t) where
  rows-few : (k l : ℕ) → has_length t.above k ≡ true → occurs l (lengths_below t k) ≤ most_made
  rows-few k l e = let a = x.few_rows k e in let b = occurs-few l (lengths_below t k) in omega arith

  module _ (b : List ℕ) (ok : counts_within t.above 0 b ≡ true) where
    helped-few : (k : ℕ) → k ≤ length b → helped t 0 (take k b) ≤ k * (most_rows * most_made)
    helped-few zero h = omega arith
    helped-few (suc k) h =
        let e = helped-few k (omega arith) in
        let f : helped t 0 (take (suc k) b) ≡ helped t 0 (take k b) + slice_index b k * t.helpers k = ap (λ n. helped t 0 (take n b)) (let g : suc k ≡ k + 1 = omega arith in g) ∙ helped-more t b k (omega arith) in
        let g = few (slice_index b k) (t.helpers k) (limit t.above 0 b ok k) (λ p. x.few_helpers k (legal t.above b ok k p)) in
        omega arith

    charged-few : (l k : ℕ) → k ≤ length b → charged t l 0 (take k b) ≤ k * (most_rows * most_made)
    charged-few l zero h = omega arith
    charged-few l (suc k) h =
        let e = charged-few l k (omega arith) in
        let f : charged t l 0 (take (suc k) b) ≡ charged t l 0 (take k b) + slice_index b k * occurs l (lengths_below t k) = ap (λ n. charged t l 0 (take n b)) (let g : suc k ≡ k + 1 = omega arith in g) ∙ charged-more t l b k (omega arith) in
        let g = few (slice_index b k) (occurs l (lengths_below t k)) (limit t.above 0 b ok k) (λ p. rows-few k l (legal t.above b ok k p)) in
        omega arith

-- the cost of a row, count by count
pub length-cost : (t : Rule) (k : ℕ) → length (cost t k) ≡ lengths
unfolding cost
length-cost t k = ⊎_elim (λ e. rw e (length-map-range_with_len (λ l. occurs l (lengths_below t k)) 0 lengths)) (λ e. rw e refl) (cases_Bool (has_length t.above k))

pub cost-at : (t : Rule) (k l : ℕ) → has_length t.above k ≡ true → l < lengths → slice_index (cost t k) l ≡ occurs l (lengths_below t k)
unfolding cost
cost-at t k l e h = rw e (get_or-map-range_with_len (λ l. occurs l (lengths_below t k)) 0 lengths l l 0 h (zero-add l))

-- what the loop over the lengths keeps: the helpers and the bill of the lengths before i
pub record Lowering (t : Rule) (b : List ℕ) (i helpers : ℕ) (below : List ℕ) : Type 0 where
  pub sum : helpers ≡ helped t 0 (take i b)
  pub size : length below ≡ lengths
  pub at : (l : ℕ) → l < lengths → slice_index below l ≡ charged t l 0 (take i b)

pub lowering-start : (t : Rule) (b : List ℕ) → Lowering t b 0 0 (replicate lengths 0)
lowering-start t b = record { sum = refl; size = length-replicate {A = ℕ} lengths 0; at = λ l h. get_or-replicate lengths l 0 0 h }

module _ (t : Rule) (x : Exact t) (b : List ℕ) (ok : counts_within t.above 0 b ≡ true) (i : ℕ) (h : i < length b) (helpers : ℕ) (below : List ℕ) (w : Lowering t b i helpers below) where
  -- a length of which there is no row
  pub lowering-skip : slice_index b i ≡ 0 → Lowering t b (i + 1) helpers below
  lowering-skip z = record {
    sum = w.sum ∙ sym (helped-more t b i h ∙ rw (z, zero-mul, add-zero));
    size = w.size;
    at = λ l k. w.at l k ∙ sym (charged-more t l b i h ∙ rw (z, zero-mul, add-zero));
  }

  module _ (p : 0 < slice_index b i) (n : length b ≡ lengths) where
    pub lowering-legal : has_length t.above i ≡ true
    lowering-legal = legal t.above b ok i p

    pub lowering-fits : helpers + slice_index b i * t.helpers i < 2 ^ 31
    lowering-fits = let a = helped-few t x b ok (i + 1) (omega arith) in let e = helped-more t b i h in let f = w.sum in omega arith

    pub lowering-helpers : t.helpers i ≤ most_made
    lowering-helpers = x.few_helpers i lowering-legal

    pub lowering-room : (l : ℕ) → slice_index below l + slice_index b i * slice_index (cost t i) l < 2 ^ 32
    lowering-room l = ⊎_elim
        (λ (k : l < lengths). let a = charged-few t x b ok l (i + 1) (omega arith) in let e = charged-more t l b i h in let f = w.at l k in let g = cost-at t i l lowering-legal k in rw g (omega arith))
        (λ (k : lengths ≤ l). let y = get_or_past below l 0 (let s = w.size in omega arith) in let z = get_or_past (cost t i) l 0 (let s = length-cost t i in omega arith) in rw (y, z, Rattle.std.proofs.Common.mul-zero) (omega arith))
        (cases_lt l lengths)

    pub lowering-more : (u : ℕ) (next : List ℕ) → u ≡ helpers + slice_index b i * t.helpers i → length next ≡ length below → ((l : ℕ) → slice_index next l ≡ slice_index below l + slice_index b i * slice_index (cost t i) l) → Lowering t b (i + 1) u next
    lowering-more u next e s f = record {
      sum = e ∙ ap (λ n. n + slice_index b i * t.helpers i) w.sum ∙ sym (helped-more t b i h);
      size = s ∙ w.size;
      at = λ l k. f l ∙ rw (w.at l k, cost-at t i l lowering-legal k) (sym (charged-more t l b i h));
    }

pub lowering-end : (t : Rule) (b : List ℕ) (i helpers : ℕ) (below : List ℕ) → Lowering t b i helpers below → length b ≤ i → (helpers ≡ helped t 0 b) × (below ≡ bill_below t b)
lowering-end t b i helpers below w h =
    let e = Rattle.std.proofs.lemmas.List.take_all i b h in
    (w.sum ∙ ap (helped t 0) e, is-below t b below w.size (λ l k. w.at l k ∙ ap (charged t l 0) e))

pub lowering-small : (t : Rule) → Exact t → (b : List ℕ) → counts_within t.above 0 b ≡ true → (i helpers : ℕ) (below : List ℕ) → Lowering t b i helpers below → i ≤ length b → length b ≡ lengths → helpers < 2 ^ 31
lowering-small t x b ok i helpers below w h n = let a = helped-few t x b ok i h in let e = w.sum in omega arith

-- within the limits of the kind above
pub own-none : (t : Rule) (n : ℕ) (b : List ℕ) → n ≤ within → counts_within t.above 0 b ≡ true → own_stop t n b ≡ None
own-none t n b h ok = rw (le-leb n within h, ok) refl
