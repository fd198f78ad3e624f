-- Triples is exact: length by length.
use Rattle.std.specs.Prelude.{◌≡◌, ℕ, zero, suc, ◌≤◌, Bool, true, ◌&&◌, List, [], ◌∷◌, map, length, replicate, nat_le, refl}
use Rattle.std.proofs.Common.{sym, ap, subst, ◌∙◌, add_assoc, arith}
use Rattle.std.proofs.lemmas.Bool.{leb-true}
use Rattle.std.proofs.lemmas.List.{length-replicate}
use Rattle.std.proofs.lemmas.List.Elements.{All-same}
use Rattle.rows.specs.declared.kinds.Kind.TheVariants.{Short, Triples}
use Rattle.rows.specs.Kinds.{has_length}
use Rattle.rows.specs.Truth.{all_hold, holds, truths}
use Rattle.rows.proofs.Opposites.{truth-opposite}
use Rattle.reductions.specs.Rules.{Exact, gives, lengths_below, most_made}
use Rattle.reductions.specs.Translations.{triples, triples_helpers, triples_rows, triples_values}
use Rattle.reductions.specs.laws.Each.{Each, all-from-each}
use Rattle.reductions.specs.laws.Helpers.{truth-helper, laws}
use Rattle.reductions.specs.laws.Variables.{Over, OfHelpers, among, over-helper, over_first, over-opposite}

-- the lengths of the rows that k literals become
abbrev pub tripled : ℕ → List ℕ
tripled zero = 3 ∷ []
tripled (suc zero) = 3 ∷ []
tripled (suc (suc zero)) = 3 ∷ []
tripled (suc (suc (suc zero))) = 3 ∷ 3 ∷ 3 ∷ 3 ∷ []
tripled (suc (suc (suc (suc k)))) = []

lengths-rows : (row : List ℕ) (h : ℕ) → map length (triples_rows row h) ≡ tripled (length row)
lengths-rows [] h = refl
lengths-rows (p ∷ []) h = refl
lengths-rows (p ∷ q ∷ []) h = refl
lengths-rows (p ∷ q ∷ r ∷ []) h = refl
lengths-rows (p ∷ q ∷ r ∷ s ∷ row) h = refl

pub triples-lengths : (k : ℕ) → lengths_below triples k ≡ tripled k
triples-lengths k = lengths-rows (replicate k 0) 0 ∙ ap tripled (length-replicate k 0)

helpers : (ts : List Bool) → length (triples_values ts) ≡ triples_helpers (length ts)
helpers [] = refl
helpers (p ∷ []) = refl
helpers (p ∷ q ∷ []) = refl
helpers (p ∷ q ∷ r ∷ []) = refl
helpers (p ∷ q ∷ r ∷ s ∷ ts) = refl

fits : (k : ℕ) → Each (λ j. has_length Triples j ≡ true) (tripled k)
fits zero = (refl, tt)
fits (suc zero) = (refl, tt)
fits (suc (suc zero)) = (refl, tt)
fits (suc (suc (suc zero))) = (refl, (refl, (refl, (refl, tt))))
fits (suc (suc (suc (suc k)))) = tt

over-rows : (P : ℕ → Type 0) (row : List ℕ) (h : ℕ) → Over P row → OfHelpers P h (triples_helpers (length row)) → Each (Over P) (triples_rows row h)
over-rows P [] h x f = let y = over_first P h 1 f (omega arith) in ((y, (y, (y, tt))), tt)
over-rows P (p ∷ []) h x f = let p' = over-opposite P p x.0 in ((p', (p', (over_first P h 1 f (omega arith), tt))), tt)
over-rows P (p ∷ q ∷ []) h x f = ((over-opposite P p x.0, (over-opposite P q x.1.0, (over_first P h 1 f (omega arith), tt))), tt)
over-rows P (p ∷ q ∷ r ∷ []) h x f =
    let a = over_first P h 5 f (omega arith) in
    let b = over-helper P h 5 1 f (omega arith) in
    let c = over-helper P h 5 2 f (omega arith) in
    let d = over-helper P h 5 3 f (omega arith) in
    let e = over-helper P h 5 4 f (omega arith) in
    ((over-opposite P p x.0, (a, (b, tt))), ((x.1.0, (b, (c, tt))), ((over-opposite P r x.1.1.0, (c, (d, tt))), ((a, (c, (e, tt))), tt))))
over-rows P (p ∷ q ∷ r ∷ s ∷ row) h x f = tt

exact-rows : (v : ℕ → Bool) (row : List ℕ) (h : ℕ) → nat_le (length row) 3 ≡ true → all_hold Triples v (triples_rows row h) ≡ (holds Short v row && gives v h (triples_values (truths v row)))
exact-rows v [] h e = grind laws
exact-rows v (p ∷ []) h e = grind laws
exact-rows v (p ∷ q ∷ []) h e = grind laws
exact-rows v (p ∷ q ∷ r ∷ []) h e = simp (truth-helper, truth-opposite, add_assoc) (grind laws)
exact-rows v (p ∷ q ∷ r ∷ s ∷ row) h e = absurd (let l = leb-true (length (p ∷ q ∷ r ∷ s ∷ row)) 3 e in omega arith)

-- lengths up to three, told apart
few-lengths : (P : ℕ → Type 0) → P 0 → P 1 → P 2 → P 3 → (k : ℕ) → nat_le k 3 ≡ true → P k
few-lengths P a b c d zero e = a
few-lengths P a b c d (suc zero) e = b
few-lengths P a b c d (suc (suc zero)) e = c
few-lengths P a b c d (suc (suc (suc zero))) e = d
few-lengths P a b c d (suc (suc (suc (suc k)))) e = absurd (let l = leb-true (suc (suc (suc (suc k)))) 3 e in omega arith)

pub triples-is-exact : Exact triples
triples-is-exact = record {
  lengths = λ row h. lengths-rows row h ∙ sym (triples-lengths (length row));
  helpers = helpers;
  fits = λ k _. All-same (λ j. has_length Triples j ≡ true) _ (tripled k) (triples-lengths k) (all-from-each (λ j. has_length Triples j ≡ true) (tripled k) (fits k));
  variables = λ row h. among row h (triples_helpers (length row)) (triples_rows row h) (λ P. over-rows P row h);
  exact = exact-rows;
  few_rows = λ k e. subst (λ ks. length ks ≤ most_made) (sym (triples-lengths k)) (few-lengths (λ k. length (tripled k) ≤ most_made) (omega arith) (omega arith) (omega arith) (omega arith) k e);
  few_helpers = few-lengths (λ k. triples_helpers k ≤ most_made) (omega arith) (omega arith) (omega arith) (omega arith);
}
