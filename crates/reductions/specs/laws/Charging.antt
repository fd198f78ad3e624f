-- Bills below: what a row takes off them, and how large they become.
use Rattle.std.specs.Prelude.{◌≡◌, ℕ, zero, suc, ◌+◌, ◌-◌, ◌<◌, ◌≤◌, true, cond, List, [], ◌∷◌, ◌++◌, length, ◌==◌, slice_index, slice_set, None, refl}
use Rattle.std.proofs.Common.{sym, ap, ◌∙◌, ⊎_elim, arith, add-zero, zero-add, length-set}
use Rattle.std.specs.List.{range_with_len}
use Rattle.std.proofs.lemmas.List.{ext_get_or, length-map, get_or-map}
use Rattle.std.proofs.lemmas.Bool.{eqb-true, ne_eqb, leb-true, cases_lt}
use Rattle.std.proofs.lemmas.Bool.Decides.{nat_tests}
use Rattle.rows.specs.declared.kinds.Kind.{Kind}
use Rattle.rows.specs.declared.kinds.Kind.TheVariants.{Cover, Clauses, Short, Triples}
use Rattle.rows.specs.Firsts.{first_failing}
use Rattle.rows.specs.Kinds.{has_length, lengths, longest}
use Rattle.reductions.specs.Bills.{bill_below, charged, helped, less, occurs}
use Rattle.reductions.specs.Rules.{Exact, Rule, lengths_below}
use Rattle.reductions.specs.laws.Each.{Each, each-from-all}

-- a posted row takes its rows and its helpers off the bill below
pub charged-less : (t : Rule) (l j : ℕ) (b : List ℕ) (k : ℕ) → 0 < slice_index b k → charged t l j (slice_set b k (slice_index b k - 1)) + occurs l (lengths_below t (j + k)) ≡ charged t l j b
charged-less t l j [] k h = absurd (omega arith)
charged-less t l j (zero ∷ b) zero h = absurd (omega arith)
charged-less t l j (suc c ∷ b) zero h = let e : suc c - 1 ≡ c = omega arith in rw (e, add-zero) (omega arith)
charged-less t l j (c ∷ b) (suc k) h = let e = charged-less t l (j + 1) b k h in let f : j + 1 + k ≡ j + suc k = omega arith in rw (← f) (omega arith)

helped-less-from : (t : Rule) (j : ℕ) (b : List ℕ) (k : ℕ) → 0 < slice_index b k → helped t j (slice_set b k (slice_index b k - 1)) + t.helpers (j + k) ≡ helped t j b
helped-less-from t j [] k h = absurd (omega arith)
helped-less-from t j (zero ∷ b) zero h = absurd (omega arith)
helped-less-from t j (suc c ∷ b) zero h = let e : suc c - 1 ≡ c = omega arith in rw (e, add-zero) (omega arith)
helped-less-from t j (c ∷ b) (suc k) h = let e = helped-less-from t (j + 1) b k h in let f : j + 1 + k ≡ j + suc k = omega arith in rw (← f) (omega arith)

pub helped-less : (t : Rule) (b : List ℕ) (k : ℕ) → 0 < slice_index b k → helped t 0 (slice_set b k (slice_index b k - 1)) + t.helpers k ≡ helped t 0 b
helped-less t b k h = rw zero-add at (helped-less-from t 0 b k h)

-- the bill below, count by count
pub length-below : (t : Rule) (b : List ℕ) → length (bill_below t b) ≡ lengths
unfolding bill_below
length-below t b = length-map (range_with_len 0 lengths) (λ l. charged t l 0 b)

range-at : (i n k : ℕ) → k < n → slice_index (range_with_len i n) k ≡ i + k
range-at i zero k h = absurd (omega arith)
range-at i (suc n) zero h = omega arith
range-at i (suc n) (suc k) h = range-at (i + 1) n k (omega arith) ∙ omega arith

pub at-below : (t : Rule) (b : List ℕ) (l : ℕ) → l < lengths → slice_index (bill_below t b) l ≡ charged t l 0 b
unfolding bill_below
at-below t b l h = get_or-map (λ l. charged t l 0 b) (range_with_len 0 lengths) l 0 0 h ∙ ap (λ i. charged t i 0 b) (range-at 0 lengths l h ∙ zero-add l)

pub is-below : (t : Rule) (b d : List ℕ) → length d ≡ lengths → ((l : ℕ) → l < lengths → slice_index d l ≡ charged t l 0 b) → d ≡ bill_below t b
is-below t b d n e = ext_get_or 0 d (bill_below t b) (n ∙ sym (length-below t b)) (λ l h. e l (omega arith) ∙ sym (at-below t b l (omega arith)))

-- rows posted one after another
one-less : (b : List ℕ) (k l : ℕ) → slice_index (slice_set b k (slice_index b k - 1)) l ≡ slice_index b l - cond (l == k) 1 0
one-less [] k l = omega arith
one-less (c ∷ b) zero zero = refl
one-less (c ∷ b) zero (suc l) = grind (arith, nat_tests)
one-less (c ∷ b) (suc k) zero = grind (arith, nat_tests)
one-less (c ∷ b) (suc k) (suc l) = let e = one-less b k l in grind (arith, nat_tests)

length-less : (ls b : List ℕ) → length (less ls b) ≡ length b
length-less [] b = refl
length-less (l ∷ ls) b = length-less ls (slice_set b l (slice_index b l - 1)) ∙ length-set b l (slice_index b l - 1)

pub less-append : (ks ls b : List ℕ) → less (ks ++ ls) b ≡ less ls (less ks b)
less-append [] ls b = refl
less-append (k ∷ ks) ls b = less-append ks ls (slice_set b k (slice_index b k - 1))

pub at-less : (ls : List ℕ) (b : List ℕ) (l : ℕ) → slice_index (less ls b) l ≡ slice_index b l - occurs l ls
at-less [] b l = omega arith
at-less (k ∷ ls) b l = let e = at-less ls (slice_set b k (slice_index b k - 1)) l in let f = one-less b k l in omega arith

pub less-below : (t : Rule) (b : List ℕ) (k : ℕ) → 0 < slice_index b k → less (lengths_below t k) (bill_below t b) ≡ bill_below t (slice_set b k (slice_index b k - 1))
less-below t b k h =
    is-below t (slice_set b k (slice_index b k - 1)) (less (lengths_below t k) (bill_below t b)) (length-less (lengths_below t k) (bill_below t b) ∙ length-below t b)
    (λ l i.
    let e = at-less (lengths_below t k) (bill_below t b) l in
    let f = at-below t b l i in
    let g : charged t l 0 (slice_set b k (slice_index b k - 1)) + occurs l (lengths_below t k) ≡ charged t l 0 b = rw zero-add at (charged-less t l 0 b k h) in
    omega arith)

pub occurs-append : (l : ℕ) (ks ls : List ℕ) → occurs l (ks ++ ls) ≡ occurs l ks + occurs l ls
occurs-append l [] ls = omega arith
occurs-append l (k ∷ ks) ls = let e = occurs-append l ks ls in omega arith

pub short : (q : Kind) (k : ℕ) → has_length q k ≡ true → k < lengths
short Cover k e = let h = leb-true k longest e in omega arith
short Clauses k e = let h = leb-true k longest e in omega arith
short Short k e = let h = leb-true k 3 e in omega arith
short Triples k e = let h = eqb-true k 3 e in omega arith

occurs-none : (q : Kind) (l : ℕ) (ks : List ℕ) → lengths ≤ l → Each (λ k. has_length q k ≡ true) ks → occurs l ks ≡ 0
occurs-none q l [] h a = refl
occurs-none q l (k ∷ ks) h a = let s = short q k a.0 in let e = occurs-none q l ks h a.1 in rw (ne_eqb l k (λ e. omega arith)) (omega arith)

pub room-below : (t : Rule) → Exact t → (b : List ℕ) (k : ℕ) → has_length t.above k ≡ true → 0 < slice_index b k → (l : ℕ) → occurs l (lengths_below t k) ≤ slice_index (bill_below t b) l
room-below t x b k y h l =
    ⊎_elim (λ i. let f = at-below t b l i in let g : charged t l 0 (slice_set b k (slice_index b k - 1)) + occurs l (lengths_below t k) ≡ charged t l 0 b = rw zero-add at (charged-less t l 0 b k h) in omega arith)
    (λ i. let z = occurs-none t.below l (lengths_below t k) i (each-from-all (λ j. has_length t.below j ≡ true) (lengths_below t k) (x.fits k y)) in omega arith)
    (cases_lt l lengths)

-- where nothing is owed above, nothing is owed below, and no helper is to come
pub owed-none : (i : ℕ) (b : List ℕ) → first_failing (λ c. c == 0) i b ≡ None → Each (λ c. c ≡ 0) b
owed-none i [] e = tt
owed-none i (zero ∷ b) e = (refl, owed-none (i + 1) b e)
owed-none i (suc c ∷ b) e = grind (arith, nat_tests)
