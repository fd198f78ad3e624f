-- Narrow is exact.
use Rattle.std.specs.Prelude.{◌≡◌, ℕ, Bool, true, List, [], ◌∷◌, length, replicate, refl}
use Rattle.std.proofs.Common.{sym, ap, arith}
use Rattle.std.proofs.lemmas.List.{length-replicate}
use Rattle.rows.specs.declared.kinds.Kind.{Kind}
use Rattle.rows.specs.declared.kinds.Kind.TheVariants.{Cover, Clauses, Short, Triples}
use Rattle.rows.specs.Kinds.{has_length}
use Rattle.rows.specs.Truth.{holds}
use Rattle.reductions.specs.Rules.{Exact}
use Rattle.reductions.specs.Translations.{narrow, wider}
use Rattle.reductions.specs.laws.Each.{all-from-each}
use Rattle.reductions.specs.laws.Helpers.{laws}
use Rattle.reductions.specs.laws.Variables.{among}

same : (kind : Kind) (v : ℕ → Bool) (row : List ℕ) → holds (wider kind) v row ≡ holds kind v row
same Cover v row = refl
same Clauses v row = refl
same Short v row = refl
same Triples v row = refl

fits : (kind : Kind) (k : ℕ) → has_length kind k ≡ true → has_length (wider kind) k ≡ true
fits Cover k e = e
fits Clauses k e = e
fits Short k e = grind laws
fits Triples k e = grind laws

pub narrow-is-exact : (kind : Kind) → Exact (narrow kind)
narrow-is-exact kind = record {
  lengths = λ row h. ap (λ k. k ∷ []) (sym (length-replicate (length row) 0));
  helpers = λ ts. refl;
  fits = λ k e. all-from-each (λ j. has_length (wider kind) j ≡ true) (length (replicate k 0) ∷ []) (rw length-replicate (fits kind k e), tt);
  variables = λ row h. among row h 0 (row ∷ []) (λ P x f. (x, tt));
  exact = λ v row h _. rw (same kind v row);
  few_rows = λ k e. omega arith;
  few_helpers = λ k e. omega arith;
}
