-- What a row of each length costs, count by count.
use Rattle.std.proofs.Common.{◌≡◌, ℕ, zero, suc, ◌+◌, ◌-◌, ◌*◌, ◌/◌, ◌<◌, ◌≤◌, true, false, cond, List, [], ◌∷◌, ◌++◌, length, replicate, ◌==◌, slice_index, slice_set, sym, refl, ap, ◌∙◌, ⊎_elim, arith, length-set}
use Rattle.std.proofs.lemmas.Bool.{cases_eq, eq-eqb, le-leb, leb-true, ne_eqb}
use Rattle.std.proofs.lemmas.Bool.Decides.{nat_tests}
use Rattle.std.proofs.lemmas.List.{ext_get_or, get_or-set_same, get_or-set_other, length-replicate}
use Rattle.rows.specs.declared.kinds.Kind.{Kind}
use Rattle.rows.specs.declared.kinds.Kind.TheVariants.{Cover, Clauses, Short}
use Rattle.rows.specs.Kinds.{has_length, lengths, longest}
use Rattle.reductions.specs.Bills.{cost, occurs}
use Rattle.reductions.specs.Rules.{Rule, lengths_below}
use Rattle.reductions.specs.Translations.{chain, narrow, pairs, triples}
use Rattle.reductions.specs.laws.ChainExact.{chain-lengths, linked}
use Rattle.reductions.specs.laws.PairsExact.{pairs-lengths, twos, twos-many}
use Rattle.reductions.specs.laws.TriplesExact.{tripled, triples-lengths}
use Rattle.reductions.specs.laws.Charging.{short}
use Rattle.reductions.proofs.BillsBelow.{cost-at, length-cost}
use Rattle.reductions.proofs.Calls.{zero-at}

pub cost-is : (t : Rule) (k : ℕ) (xs : List ℕ) → has_length t.above k ≡ true → length xs ≡ lengths → ((l : ℕ) → l < lengths → slice_index xs l ≡ occurs l (lengths_below t k)) → xs ≡ cost t k
cost-is t k xs e n f = ext_get_or 0 xs (cost t k) (n ∙ sym (length-cost t k)) (λ l h. let i : l < lengths = omega arith in f l i ∙ sym (cost-at t k l e i))

pub cost-none : (t : Rule) (k : ℕ) → has_length t.above k ≡ false → replicate lengths 0 ≡ cost t k
unfolding cost
cost-none t k e = rw e refl

pub set-at : (xs : List ℕ) (i v l : ℕ) → i < length xs → slice_index (slice_set xs i v) l ≡ cond (l == i) v (slice_index xs l)
set-at xs i v l h = ⊎_elim (λ (e : l ≡ i). rw (e, eq-eqb i i refl) (get_or-set_same xs i v 0 h)) (λ (n : l ≡ i → ⊥). rw (ne_eqb l i n) (get_or-set_other xs i l v 0 n)) (cases_eq l i)

length-zeros : (i v : ℕ) → length (slice_set (replicate lengths 0) i v) ≡ lengths
length-zeros i v = length-set (replicate lengths 0) i v

set-zeros : (i v l : ℕ) → i < lengths → slice_index (slice_set (replicate lengths 0) i v) l ≡ cond (l == i) v 0
set-zeros i v l h = set-at (replicate lengths 0) i v l h ∙ rw (zero-at lengths l)

pub narrow-counts : (kind : Kind) (k l : ℕ) → k < lengths → slice_index (slice_set (replicate lengths 0) k 1) l ≡ occurs l (lengths_below (narrow kind) k)
narrow-counts kind k l h = set-zeros k 1 l h ∙ rw length-replicate (grind (arith, nat_tests))

occurs-more : (l k : ℕ) (ks : List ℕ) → occurs l (replicate k 2 ++ ks) ≡ cond (l == 2) k 0 + occurs l ks
occurs-more l zero ks = grind (arith, nat_tests)
occurs-more l (suc k) ks = let e = occurs-more l k ks in grind (arith, nat_tests)

occurs-twos : (l k : ℕ) → occurs l (twos k) ≡ cond (l == 2) (length (twos k)) 0
occurs-twos l zero = grind (arith, nat_tests)
occurs-twos l (suc k) = let e = occurs-twos l k in let f = occurs-more l k (twos k) in let g = Rattle.reductions.specs.laws.PairsExact.twos-more k (twos k) in grind (arith, nat_tests)

occurs-linked : (j l : ℕ) → occurs l (linked (suc (suc (suc j)))) ≡ cond (l == 2) (2 * j) (cond (l == 3) (j + 1) 0)
occurs-linked zero l = grind (arith, nat_tests)
occurs-linked (suc j) l = let e = occurs-linked j l in grind (arith, nat_tests)

pairs-sums : (k l n p q o : ℕ) → p ≡ cond (2 == k) 1 0 → q ≡ cond (l == k) 1 0 → o ≡ cond (l == 2) n 0 → cond (l == 2) (p + n) q ≡ cond (l == k) 1 0 + o
pairs-sums k l n p q o e f g = grind (arith, nat_tests)

pub pairs-counts : (k n l : ℕ) → k < lengths → n ≡ k * (k - 1) / 2 → slice_index (slice_set (slice_set (replicate lengths 0) k 1) 2 (slice_index (slice_set (replicate lengths 0) k 1) 2 + n)) l ≡ occurs l (lengths_below pairs k)
pairs-counts k n l h e =
    let xs = slice_set (replicate lengths 0) k 1 in
    let s : 2 < length xs = omega (arith, length-zeros k 1) in
    let d : occurs l (twos k) ≡ cond (l == 2) n 0 = occurs-twos l k ∙ ap (λ m. cond (l == 2) m 0) (twos-many k ∙ sym e) in
    set-at xs 2 (slice_index xs 2 + n) l s
    ∙ pairs-sums k l n (slice_index xs 2) (slice_index xs l) (occurs l (twos k)) (set-zeros k 1 2 h) (set-zeros k 1 l h) d
    ∙ sym (ap (occurs l) (pairs-lengths k))

linked-short : (k : ℕ) → k ≤ 3 → linked k ≡ k ∷ []
linked-short zero h = refl
linked-short (suc zero) h = refl
linked-short (suc (suc zero)) h = refl
linked-short (suc (suc (suc zero))) h = refl
linked-short (suc (suc (suc (suc k)))) h = absurd (omega arith)

pub chain-short : (k l : ℕ) → k ≤ 3 → slice_index (slice_set (replicate lengths 0) k 1) l ≡ occurs l (lengths_below chain k)
chain-short k l h = set-zeros k 1 l (omega arith) ∙ sym (ap (occurs l) (chain-lengths k ∙ linked-short k h) ∙ grind (arith, nat_tests))

chain-sums : (l a b q o j : ℕ) → q ≡ cond (l == 2) a 0 → a ≡ 2 * j → b ≡ j + 1 → o ≡ cond (l == 2) (2 * j) (cond (l == 3) (j + 1) 0) → cond (l == 3) b q ≡ o
chain-sums l a b q o j e f g i = grind (arith, nat_tests)

pub chain-long : (k a b l : ℕ) → 3 < k → a ≡ 2 * (k - 3) → b ≡ k - 3 + 1 → slice_index (slice_set (slice_set (replicate lengths 0) 2 a) 3 b) l ≡ occurs l (lengths_below chain k)
chain-long zero a b l h e f = absurd (omega arith)
chain-long (suc zero) a b l h e f = absurd (omega arith)
chain-long (suc (suc zero)) a b l h e f = absurd (omega arith)
chain-long (suc (suc (suc j))) a b l h e f =
    let xs = slice_set (replicate lengths 0) 2 a in
    let s : 3 < length xs = omega (arith, length-zeros 2 a) in
    set-at xs 3 b l s
    ∙ chain-sums l a b (slice_index xs l) (occurs l (linked (suc (suc (suc j))))) j (set-zeros 2 a l (omega arith)) (omega arith) (omega arith) (occurs-linked j l)
    ∙ sym (ap (occurs l) (chain-lengths (suc (suc (suc j)))))

-- the lists that the code writes
pub narrow-cost : (kind : Kind) (k : ℕ) → has_length kind k ≡ true → slice_set (replicate lengths 0) k 1 ≡ cost (narrow kind) k
narrow-cost kind k e = cost-is (narrow kind) k _ e (length-zeros k 1) (λ l h. narrow-counts kind k l (short kind k e))

pub pairs-cost : (k n : ℕ) → has_length Cover k ≡ true → n ≡ k * (k - 1) / 2 → slice_set (slice_set (replicate lengths 0) k 1) 2 (slice_index (slice_set (replicate lengths 0) k 1) 2 + n) ≡ cost pairs k
pairs-cost k n e f = cost-is pairs k _ e (length-set (slice_set (replicate lengths 0) k 1) 2 _ ∙ length-zeros k 1) (λ l h. pairs-counts k n l (short Cover k e) f)

pub chain-cost-short : (k : ℕ) → k ≤ 3 → slice_set (replicate lengths 0) k 1 ≡ cost chain k
chain-cost-short k h = cost-is chain k _ (le-leb k longest (omega arith)) (length-zeros k 1) (λ l _. chain-short k l h)

pub chain-cost-long : (k a b : ℕ) → has_length Clauses k ≡ true → 3 < k → a ≡ 2 * (k - 3) → b ≡ k - 3 + 1 → slice_set (slice_set (replicate lengths 0) 2 a) 3 b ≡ cost chain k
chain-cost-long k a b e h f g = cost-is chain k _ e (length-set (slice_set (replicate lengths 0) 2 a) 3 b ∙ length-zeros 2 a) (λ l _. chain-long k a b l h f g)

tripled-counts : (k l : ℕ) → occurs l (tripled k) ≡ cond (l == 3) (length (tripled k)) 0
tripled-counts zero l = grind (arith, nat_tests)
tripled-counts (suc zero) l = grind (arith, nat_tests)
tripled-counts (suc (suc zero)) l = grind (arith, nat_tests)
tripled-counts (suc (suc (suc zero))) l = grind (arith, nat_tests)
tripled-counts (suc (suc (suc (suc k)))) l = grind (arith, nat_tests)

pub triples-cost : (k : ℕ) → has_length Short k ≡ true → slice_set (replicate lengths 0) 3 (length (tripled k)) ≡ cost triples k
triples-cost k e = cost-is triples k _ e (length-zeros 3 (length (tripled k))) (λ l h. set-zeros 3 (length (tripled k)) l (omega arith) ∙ sym (ap (occurs l) (triples-lengths k) ∙ tripled-counts k l))

pub tripled-three : (k : ℕ) → k ≡ 3 → 4 ≡ length (tripled k)
tripled-three k e = rw e refl

pub tripled-other : (k : ℕ) → has_length Short k ≡ true → (k ≡ 3 → ⊥) → 1 ≡ length (tripled k)
tripled-other zero e n = refl
tripled-other (suc zero) e n = refl
tripled-other (suc (suc zero)) e n = refl
tripled-other (suc (suc (suc zero))) e n = absurd (n refl)
tripled-other (suc (suc (suc (suc k)))) e n = absurd (let l = leb-true (suc (suc (suc (suc k)))) 3 e in omega arith)
