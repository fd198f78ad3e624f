-- The chain is exact: each law by recursion along the row, p being its first literal or the last helper.
use Rattle.std.specs.Prelude.{◌≡◌, ℕ, zero, suc, ◌+◌, ◌-◌, ◌*◌, ◌≤◌, Bool, true, ◌&&◌, ◌||◌, List, [], ◌∷◌, map, length, replicate, refl}
use Rattle.std.proofs.Common.{sym, ap, subst, ◌∙◌, arith}
use Rattle.std.proofs.lemmas.Bool.{leb-true}
use Rattle.std.proofs.lemmas.List.{length-replicate}
use Rattle.std.proofs.lemmas.List.Elements.{All-same}
use Rattle.rows.specs.declared.kinds.Kind.TheVariants.{Clauses, Short}
use Rattle.rows.specs.Kinds.{has_length, longest}
use Rattle.rows.specs.Literals.{truth_of}
use Rattle.rows.specs.Truth.{all_hold, holds, truths}
use Rattle.reductions.specs.Rules.{Exact, gives, lengths_below, most_made}
use Rattle.reductions.specs.Translations.{chain, chain_rows, either, link_values, links}
use Rattle.reductions.specs.laws.Each.{Each, all-from-each, each-append}
use Rattle.reductions.specs.laws.Helpers.{laws}
use Rattle.reductions.specs.laws.Variables.{Over, OfHelpers, among, over_first, over-either}

-- the lengths of the rows that k literals become
abbrev pub linked : ℕ → List ℕ
linked zero = 0 ∷ []
linked (suc zero) = 1 ∷ []
linked (suc (suc zero)) = 2 ∷ []
linked (suc (suc (suc zero))) = 3 ∷ []
linked (suc (suc (suc (suc k)))) = 3 ∷ 2 ∷ 2 ∷ linked (suc (suc (suc k)))

lengths-links : (p : ℕ) (row : List ℕ) (h : ℕ) → map length (links p row h) ≡ linked (suc (length row))
lengths-links p [] h = refl
lengths-links p (q ∷ []) h = refl
lengths-links p (q ∷ a ∷ []) h = refl
lengths-links p (q ∷ a ∷ b ∷ row) h = ap (λ (ks : List ℕ). 3 ∷ 2 ∷ 2 ∷ ks) (lengths-links (2 * h) (a ∷ b ∷ row) (h + 1))

lengths-rows : (row : List ℕ) (h : ℕ) → map length (chain_rows row h) ≡ linked (length row)
lengths-rows [] h = refl
lengths-rows (p ∷ row) h = lengths-links p row h

pub chain-lengths : (k : ℕ) → lengths_below chain k ≡ linked k
chain-lengths k = lengths-rows (replicate k 0) 0 ∙ ap linked (length-replicate k 0)

helpers : (p : Bool) (ts : List Bool) → length (link_values p ts) ≡ suc (length ts) - 3
helpers p [] = refl
helpers p (q ∷ []) = refl
helpers p (q ∷ a ∷ []) = refl
helpers p (q ∷ a ∷ b ∷ ts) = let e = helpers (p || q) (a ∷ b ∷ ts) in omega arith

fits : (k : ℕ) → Each (λ j. has_length Short j ≡ true) (linked k)
fits zero = (refl, tt)
fits (suc zero) = (refl, tt)
fits (suc (suc zero)) = (refl, tt)
fits (suc (suc (suc zero))) = (refl, tt)
fits (suc (suc (suc (suc k)))) = (refl, (refl, (refl, fits (suc (suc (suc k))))))

over-links : (P : ℕ → Type 0) (p : ℕ) (row : List ℕ) (h : ℕ) → Over P (p ∷ row) → OfHelpers P h (suc (length row) - 3) → Each (Over P) (links p row h)
over-links P p [] h x f = (x, tt)
over-links P p (q ∷ []) h x f = (x, tt)
over-links P p (q ∷ a ∷ []) h x f = (x, tt)
over-links P p (q ∷ a ∷ b ∷ row) h x f =
    let y = over_first P h (suc (suc (suc (suc (length row)))) - 3) f (omega arith) in
    each-append (Over P) (either (2 * h) p q) (links (2 * h) (a ∷ b ∷ row) (h + 1)) (over-either P (2 * h) p q y x.0 x.1.0)
    (over-links P (2 * h) (a ∷ b ∷ row) (h + 1) (y, x.1.1) (λ i low high. f i (omega arith) (omega arith)))

over-rows : (P : ℕ → Type 0) (row : List ℕ) (h : ℕ) → Over P row → OfHelpers P h (length row - 3) → Each (Over P) (chain_rows row h)
over-rows P [] h x f = (tt, tt)
over-rows P (p ∷ row) h x f = over-links P p row h x f

exact-links : (v : ℕ → Bool) (p : ℕ) (row : List ℕ) (h : ℕ) → all_hold Short v (links p row h) ≡ (holds Clauses v (p ∷ row) && gives v h (link_values (truth_of v p) (truths v row)))
exact-links v p [] h = refl
exact-links v p (q ∷ []) h = refl
exact-links v p (q ∷ a ∷ []) h = refl
exact-links v p (q ∷ a ∷ b ∷ row) h = let e = exact-links v (2 * h) (a ∷ b ∷ row) (h + 1) in grind laws

-- how many they are
linked-many : (k : ℕ) → length (linked (suc (suc (suc k)))) ≡ 3 * k + 1
linked-many zero = refl
linked-many (suc k) = let e = linked-many k in omega arith

linked-few : (k : ℕ) → k ≤ longest → length (linked k) ≤ most_made
linked-few zero h = omega arith
linked-few (suc zero) h = omega arith
linked-few (suc (suc zero)) h = omega arith
linked-few (suc (suc (suc k))) h = let e = linked-many k in omega arith

pub chain-is-exact : Exact chain
chain-is-exact = record {
  lengths = λ row h. lengths-rows row h ∙ sym (chain-lengths (length row));
  helpers = elim [ [] ↦ refl | t ∷ ts ↦ helpers t ts ];
  fits = λ k _. All-same (λ j. has_length Short j ≡ true) _ (linked k) (chain-lengths k) (all-from-each (λ j. has_length Short j ≡ true) (linked k) (fits k));
  variables = λ row h. among row h (length row - 3) (chain_rows row h) (λ P. over-rows P row h);
  exact = λ v. elim [ [] ↦ λ h _. refl | p ∷ row ↦ λ h _. exact-links v p row h ];
  few_rows = λ k e. subst (λ ks. length ks ≤ most_made) (sym (chain-lengths k)) (linked-few k (leb-true k longest e));
  few_helpers = λ k e. let h = leb-true k longest e in omega arith;
}
