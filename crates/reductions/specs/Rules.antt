-- What a reduction does with one row, and what makes it exact.
use Rattle.std.specs.Prelude.{◌≡◌, ℕ, ◌+◌, ◌-◌, ◌*◌, ◌/◌, ◌<◌, ◌≤◌, Bool, true, ◌&&◌, ◌⊎◌, List, [], ◌∷◌, map, length, replicate}
use Rattle.std.specs.Bool.{beq}
use Rattle.std.specs.List.{All, Contains}
use Rattle.rows.specs.declared.kinds.Kind.{Kind}
use Rattle.rows.specs.Kinds.{has_length, longest}
use Rattle.rows.specs.Truth.{all_hold, holds, truths}

pub record Rule : Type 0 where
  -- the kind of the rows that it takes, and of those that it gives
  pub above : Kind
  pub below : Kind
  -- how many helpers a row of so many literals gets
  pub helpers : ℕ → ℕ
  -- the rows that a row becomes, where its helpers are numbered from this variable on
  pub rows : List ℕ → ℕ → List (List ℕ)
  -- the values that its helpers must have, from the truths of its positions
  pub values : List Bool → List Bool

-- the lengths of the rows that a row of k literals becomes, whichever they are
abbrev pub lengths_below : Rule → ℕ → List ℕ
lengths_below t k = map length (t.rows (replicate k 0) 0)

-- whether v gives the variables h, h + 1, .. these values
abbrev pub gives : (ℕ → Bool) → ℕ → List Bool → Bool
gives v h [] = true
gives v h (x ∷ xs) = beq (v h) x && gives v (h + 1) xs

-- variable i is one of the row's, or one of m helpers from h on
abbrev pub Among : List ℕ → ℕ → ℕ → ℕ → Type 0
Among row h m i = Contains (map (λ l. l / 2) row) i ⊎ ((h ≤ i) × (i < h + m))

-- the most rows that a row becomes, and the most helpers that it gets: one fewer than the square of the most literals that a row has
abbrev pub most_made : ℕ
most_made = longest * longest - 1

pub record Exact (t : Rule) : Type 0 where
  -- the row's length alone says how long the rows below are and how many helpers there are
  pub lengths : (row : List ℕ) (h : ℕ) → map length (t.rows row h) ≡ lengths_below t (length row)
  pub helpers : (ts : List Bool) → length (t.values ts) ≡ t.helpers (length ts)
  -- the kind below has rows of those lengths
  pub fits : (k : ℕ) → has_length t.above k ≡ true → All (λ j. has_length t.below j ≡ true) (lengths_below t k)
  -- the rows below are over the row's variables and the helpers
  pub variables : (row : List ℕ) (h : ℕ) → All (All (λ l. Among row h (t.helpers (length row)) (l / 2))) (t.rows row h)
  -- they are all true exactly when the row is and the helpers have their values
  pub exact : (v : ℕ → Bool) (row : List ℕ) (h : ℕ) → has_length t.above (length row) ≡ true → all_hold t.below v (t.rows row h) ≡ (holds t.above v row && gives v h (t.values (truths v row)))
  -- a row becomes few rows and gets few helpers, so that counts of them stay small numbers
  pub few_rows : (k : ℕ) → has_length t.above k ≡ true → length (lengths_below t k) ≤ most_made
  pub few_helpers : (k : ℕ) → has_length t.above k ≡ true → t.helpers k ≤ most_made
