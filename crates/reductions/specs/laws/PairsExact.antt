-- Pairs is exact.
use Rattle.std.specs.Prelude.{◌≡◌, ℕ, zero, suc, ◌+◌, ◌-◌, ◌*◌, ◌/◌, ◌≤◌, Bool, true, not, ◌&&◌, ◌||◌, List, [], ◌∷◌, ◌++◌, map, length, replicate, ◌==◌, nat_lt, refl}
use Rattle.std.proofs.Common.{sym, ap, subst, ◌∙◌, arith, mul-le-mul}
use Rattle.std.proofs.lemmas.Bool.{leb-true}
use Rattle.std.proofs.lemmas.List.{length-replicate}
use Rattle.std.proofs.lemmas.List.Elements.{All-same}
use Rattle.rows.specs.declared.kinds.Kind.TheVariants.{Clauses}
use Rattle.rows.specs.Kinds.{has_length, longest}
use Rattle.rows.specs.Literals.{truth_of}
use Rattle.rows.specs.Truth.{all_hold, trues, truths}
use Rattle.reductions.specs.Rules.{Exact, lengths_below, most_made}
use Rattle.reductions.specs.Translations.{not_both, not_with, pairs}
use Rattle.reductions.specs.laws.Each.{Each, all-from-each, each-append}
use Rattle.reductions.specs.laws.Helpers.{laws}
use Rattle.reductions.specs.laws.Variables.{Over, among, over-opposite}

-- the lengths of the rows for k positions past the row itself
abbrev pub twos : ℕ → List ℕ
twos zero = []
twos (suc k) = replicate k 2 ++ twos k

lengths-not-with : (l : ℕ) (row : List ℕ) (rows : List (List ℕ)) → map length (not_with l row ++ rows) ≡ replicate (length row) 2 ++ map length rows
lengths-not-with l [] rows = refl
lengths-not-with l (k ∷ row) rows = ap (λ (ks : List ℕ). 2 ∷ ks) (lengths-not-with l row rows)

lengths-both : (row : List ℕ) → map length (not_both row) ≡ twos (length row)
lengths-both [] = refl
lengths-both (l ∷ row) = lengths-not-with l row (not_both row) ∙ ap (λ ks. replicate (length row) 2 ++ ks) (lengths-both row)

pub pairs-lengths : (k : ℕ) → lengths_below pairs k ≡ k ∷ twos k
pairs-lengths k = rw (lengths-both (replicate k 0), length-replicate)

fits-twos : (k : ℕ) (ks : List ℕ) → Each (λ j. has_length Clauses j ≡ true) ks → Each (λ j. has_length Clauses j ≡ true) (replicate k 2 ++ ks)
fits-twos zero ks a = a
fits-twos (suc k) ks a = (refl, fits-twos k ks a)

fits : (k : ℕ) → Each (λ j. has_length Clauses j ≡ true) (twos k)
fits zero = tt
fits (suc k) = fits-twos k (twos k) (fits k)

over-not-with : (P : ℕ → Type 0) (l : ℕ) (row : List ℕ) → P (l / 2) → Over P row → Each (Over P) (not_with l row)
over-not-with P l [] x xs = tt
over-not-with P l (k ∷ row) x xs = ((over-opposite P l x, (over-opposite P k xs.0, tt)), over-not-with P l row x xs.1)

over-both : (P : ℕ → Type 0) (row : List ℕ) → Over P row → Each (Over P) (not_both row)
over-both P [] xs = tt
over-both P (l ∷ row) xs = each-append (Over P) (not_with l row) (not_both row) (over-not-with P l row xs.0 xs.1) (over-both P row xs.1)

exact-not-with : (v : ℕ → Bool) (l : ℕ) (row : List ℕ) (rows : List (List ℕ)) → all_hold Clauses v (not_with l row ++ rows) ≡ ((not (truth_of v l) || trues (truths v row) == 0) && all_hold Clauses v rows)
exact-not-with v l [] rows = grind laws
exact-not-with v l (k ∷ row) rows = let e = exact-not-with v l row rows in grind laws

-- not both of any two: at most one
exact-both : (v : ℕ → Bool) (row : List ℕ) → all_hold Clauses v (not_both row) ≡ nat_lt (trues (truths v row)) 2
exact-both v [] = refl
exact-both v (l ∷ row) = let e = exact-both v row in let f = exact-not-with v l row (not_both row) in grind laws

-- how many they are, and all are of two literals
pub twos-more : (k : ℕ) (ks : List ℕ) → length (replicate k 2 ++ ks) ≡ k + length ks
twos-more zero ks = omega arith
twos-more (suc k) ks = let e = twos-more k ks in omega arith

double-twos : (k : ℕ) → 2 * length (twos (suc k)) ≡ suc k * k
double-twos zero = refl
double-twos (suc k) = let e = double-twos k in let f = twos-more (suc k) (twos (suc k)) in omega arith

pub twos-many : (k : ℕ) → length (twos k) ≡ k * (k - 1) / 2
twos-many zero = refl
twos-many (suc k) = let e = double-twos k in let f : suc k - 1 ≡ k = omega arith in rw (f, ← e) (omega arith)

few-twos : (k : ℕ) → k ≤ longest → length (twos k) ≤ longest * (longest - 1) / 2
few-twos zero h = omega arith
few-twos (suc k) h =
    let b : k ≤ longest - 1 = omega arith in
    let c = mul-le-mul h b in
    omega (arith, double-twos k)

pub pairs-is-exact : Exact pairs
pairs-is-exact = record {
  lengths = λ row h. ap (λ ks. length row ∷ ks) (lengths-both row) ∙ sym (pairs-lengths (length row));
  helpers = λ ts. refl;
  fits = λ k e. All-same (λ j. has_length Clauses j ≡ true) _ (k ∷ twos k) (pairs-lengths k) (all-from-each (λ j. has_length Clauses j ≡ true) (k ∷ twos k) (e, fits k));
  variables = λ row h. among row h 0 (row ∷ not_both row) (λ P x f. (x, over-both P row x));
  exact = λ v row h _. let e = exact-both v row in grind laws;
  few_rows = λ k e. let f = few-twos k (leb-true k longest e) in subst (λ ks. length ks ≤ most_made) (sym (pairs-lengths k)) (omega arith);
  few_helpers = λ k e. omega arith;
}
