-- The rows of triples, by the length of the row above.
use Rattle.std.proofs.Common.{◌≡◌, ℕ, ◌*◌, List, [], ◌∷◌, length, slice_index, refl, arith}
use Rattle.rows.specs.Literals.{opposite}
use Rattle.reductions.specs.Translations.{triples_rows}

pub of-one : (row : List ℕ) (h : ℕ) → length row ≡ 1 → triples_rows row h ≡ (opposite (slice_index row 0) ∷ opposite (slice_index row 0) ∷ 2 * h ∷ []) ∷ []
of-one [] h e = absurd (omega arith)
of-one (p ∷ []) h e = refl
of-one (p ∷ q ∷ row) h e = absurd (omega arith)

pub of-two : (row : List ℕ) (h : ℕ) → length row ≡ 2 → triples_rows row h ≡ (opposite (slice_index row 0) ∷ opposite (slice_index row 1) ∷ 2 * h ∷ []) ∷ []
of-two [] h e = absurd (omega arith)
of-two (p ∷ []) h e = absurd (omega arith)
of-two (p ∷ q ∷ []) h e = refl
of-two (p ∷ q ∷ r ∷ row) h e = absurd (omega arith)
