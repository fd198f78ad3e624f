-- The rows of the chain as they are posted, link by link.
use Rattle.std.proofs.Common.{◌≡◌, ℕ, ◌+◌, ◌-◌, ◌*◌, ◌<◌, ◌≤◌, List, [], ◌∷◌, ◌++◌, length, take, drop, slice_index, refl, ap, ◌∙◌, add-zero, arith, length-drop, get_or-take}
use Rattle.std.proofs.lemmas.List.{drop-drop, get_or-drop, length-take-le}
use Rattle.reductions.specs.Translations.{chain_rows, either, links}

pub chain-short : (row : List ℕ) (h : ℕ) → length row ≤ 3 → chain_rows row h ≡ row ∷ []
chain-short [] h l = refl
chain-short (p ∷ []) h l = refl
chain-short (p ∷ q ∷ []) h l = refl
chain-short (p ∷ q ∷ a ∷ []) h l = refl
chain-short (p ∷ q ∷ a ∷ b ∷ row) h l = absurd (omega arith)

links-more : (p : ℕ) (xs : List ℕ) (h : ℕ) → 3 ≤ length xs → links p xs h ≡ either (2 * h) p (slice_index xs 0) ++ links (2 * h) (drop 1 xs) (h + 1)
links-more p [] h l = absurd (omega arith)
links-more p (q ∷ []) h l = absurd (omega arith)
links-more p (q ∷ a ∷ []) h l = absurd (omega arith)
links-more p (q ∷ a ∷ b ∷ row) h l = refl

links-last : (p : ℕ) (xs : List ℕ) (h : ℕ) → length xs ≡ 2 → links p xs h ≡ (p ∷ slice_index xs 0 ∷ slice_index xs 1 ∷ []) ∷ []
links-last p [] h l = absurd (omega arith)
links-last p (q ∷ []) h l = absurd (omega arith)
links-last p (q ∷ a ∷ []) h l = refl
links-last p (q ∷ a ∷ b ∷ row) h l = absurd (omega arith)

-- the literals between the first and the last two
pub between : (row : List ℕ) → 3 < length row → length (take (length row - 2 - 1) (drop 1 row)) ≡ length row - 3
between row l = length-take-le (length row - 2 - 1) (drop 1 row) (omega (arith, length-drop 1 row)) ∙ omega arith

-- at literal i of those between the first and the last two
module _ (row : List ℕ) (i : ℕ) (p h : ℕ) where
  -- the literal of the loop
  pub middle : i < length row - 3 → slice_index (take (length row - 2 - 1) (drop 1 row)) i ≡ slice_index row (i + 1)
  middle l = get_or-take (length row - 2 - 1) (drop 1 row) i 0 (omega arith) ∙ get_or-drop 1 row i 0 ∙ ap (slice_index row) (let e : 1 + i ≡ i + 1 = omega arith in e)

  pub link : i < length row - 3 → links p (drop (i + 1) row) h ≡ either (2 * h) p (slice_index row (i + 1)) ++ links (2 * h) (drop (i + 1 + 1) row) (h + 1)
  link l =
      links-more p (drop (i + 1) row) h (omega (arith, length-drop (i + 1) row))
      ∙ ap (λ q. either (2 * h) p q ++ links (2 * h) (drop 1 (drop (i + 1) row)) (h + 1)) (get_or-drop (i + 1) row 0 0 ∙ ap (slice_index row) (add-zero (i + 1)))
      ∙ ap (λ xs. either (2 * h) p (slice_index row (i + 1)) ++ links (2 * h) xs (h + 1)) (drop-drop 1 (i + 1) row)

  pub last-link : i + 3 ≡ length row → links p (drop (i + 1) row) h ≡ (p ∷ slice_index row (length row - 2) ∷ slice_index row (length row - 1) ∷ []) ∷ []
  last-link l =
      links-last p (drop (i + 1) row) h (omega (arith, length-drop (i + 1) row))
      ∙ ap (λ q. (p ∷ q ∷ slice_index (drop (i + 1) row) 1 ∷ []) ∷ []) (get_or-drop (i + 1) row 0 0 ∙ ap (slice_index row) (let e : i + 1 + 0 ≡ length row - 2 = omega arith in e))
      ∙ ap (λ q. (p ∷ slice_index row (length row - 2) ∷ q ∷ []) ∷ []) (get_or-drop (i + 1) row 1 0 ∙ ap (slice_index row) (let e : i + 1 + 1 ≡ length row - 1 = omega arith in e))
