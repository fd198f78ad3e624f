-- The rows of pairs as they are posted, one after another.
use Rattle.std.proofs.Common.{◌≡◌, ℕ, ◌+◌, ◌-◌, ◌<◌, List, [], ◌∷◌, ◌++◌, length, take, drop, slice_index, arith, length-drop}
use Rattle.std.proofs.lemmas.List.{at_drop_more, take_all}
use Rattle.rows.specs.Literals.{opposite}
use Rattle.reductions.specs.Translations.{not_both, not_with}

pub not-with-at : (l : ℕ) (row : List ℕ) (i : ℕ) → i < length row → not_with l (drop i row) ≡ (opposite l ∷ opposite (slice_index row i) ∷ []) ∷ not_with l (drop (i + 1) row)
not-with-at l row i h = at_drop_more (not_with l) row i 0 h

pub not-both-at : (row : List ℕ) (i : ℕ) → i < length row → not_both (drop i row) ≡ not_with (slice_index row i) (drop (i + 1) row) ++ not_both (drop (i + 1) row)
not-both-at row i h = at_drop_more not_both row i 0 h

-- what a slice from a place on is
pub behind : (row : List ℕ) (n : ℕ) → take (length row - n) (drop n row) ≡ drop n row
behind row n = take_all (length row - n) (drop n row) (omega (arith, length-drop n row))
