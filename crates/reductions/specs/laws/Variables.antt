-- The variables of the rows below.
use Rattle.std.specs.Prelude.{ℕ, ◌+◌, ◌*◌, ◌/◌, ◌<◌, ◌≤◌, List, map}
use Rattle.std.proofs.Common.{inl, inr, arith}
use Rattle.std.specs.List.{All, Contains}
use Rattle.std.proofs.lemmas.List.Elements.{All-weaker, All-contains_itself}
use Rattle.rows.specs.Literals.{opposite}
use Rattle.rows.proofs.Opposites.{variable-opposite}
use Rattle.reductions.specs.Rules.{Among}
use Rattle.reductions.specs.Translations.{either}
use Rattle.reductions.specs.laws.Each.{Each, all-from-each-row, each-from-all, each-of-map}
use Rattle.reductions.specs.laws.Helpers.{variable-helper}

-- P holds of the variable of each literal
abbrev pub Over : (ℕ → Type 0) → List ℕ → Type 0
Over P row = Each (λ l. P (l / 2)) row

-- P holds of the m helpers from h on
abbrev pub OfHelpers : (ℕ → Type 0) → ℕ → ℕ → Type 0
OfHelpers P h m = (i : ℕ) → h ≤ i → i < h + m → P i

-- rows are over a row's variables and the helpers, if whatever holds of those holds of the rows' variables
pub among : (row : List ℕ) (h m : ℕ) (rows : List (List ℕ)) → ((P : ℕ → Type 0) → Over P row → OfHelpers P h m → Each (Over P) rows) → All (All (λ l. Among row h m (l / 2))) rows
among row h m rows f =
    let own = map (λ l. l / 2) row in
    let P = Among row h m in
    all-from-each-row (λ l. P (l / 2)) rows
    (f P (each-of-map P (λ l. l / 2) row (each-from-all P own (All-weaker (Contains own) P (λ i x. inl x) own (All-contains_itself own)))) (λ i low high. inr (low, high)))

module _ (P : ℕ → Type 0) where
  pub over-opposite : (l : ℕ) → P (l / 2) → P (opposite l / 2)
  over-opposite l x = rw variable-opposite x

  pub over-helper : (h m k : ℕ) → OfHelpers P h m → k < m → P (2 * (h + k) / 2)
  over-helper h m k f low = rw variable-helper (f (h + k) (omega arith) (omega arith))

  pub over_first : (h m : ℕ) → OfHelpers P h m → 0 < m → P (2 * h / 2)
  over_first h m f low = rw variable-helper (f h (omega arith) (omega arith))

  pub over-either : (y p q : ℕ) → P (y / 2) → P (p / 2) → P (q / 2) → Each (Over P) (either y p q)
  over-either y p q a b c = ((over-opposite y a, (b, (c, tt))), ((a, (over-opposite p b, tt)), ((a, (over-opposite q c, tt)), tt)))
