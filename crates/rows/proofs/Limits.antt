-- The limits on the counts of a bill, as a test of each count beside its length.
use Rattle.std.proofs.Common.{◌≡◌, ℕ, ◌+◌, ◌&&◌, List, [], ◌∷◌, refl, ap}
use Rattle.std.specs.List.{enumerate_from, list_all}
use Rattle.rows.specs.declared.kinds.Kind.{Kind}
use Rattle.rows.specs.Bills.{count_within, counts_within}

pub counts_within-is : (kind : Kind) (k : ℕ) (counts : List ℕ) → list_all (λ p. count_within kind p.0 p.1) (enumerate_from k counts) ≡ counts_within kind k counts
counts_within-is kind k [] = refl
counts_within-is kind k (c ∷ cs) = ap (λ b. count_within kind k c && b) (counts_within-is kind (k + 1) cs)
