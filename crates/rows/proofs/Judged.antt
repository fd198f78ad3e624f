-- The judge of a row, once its true positions are counted.
use Rattle.std.proofs.Common.{◌≡◌, ℕ, Bool, true, List, length, Some, None, Ok, Option, ap, arith}
use Rattle.rows.specs.declared.kinds.Kind.{Kind}
use Rattle.rows.specs.Kinds.{enough, has_length}
use Rattle.rows.specs.Truth.{valuation, truths, trues, first_wide}
use Rattle.rows.specs.Judging.{unless_wide, counted, judged}

-- what is said of a count where no literal is too wide
unless-enough : (kind : Kind) (w : Option ℕ) (t n : ℕ) → unless_wide w t ≡ Ok n → unless_wide w (enough kind t) ≡ Ok (enough kind n)
unless-enough kind None t n e = ap (λ (m : ℕ). Ok (enough kind m)) (grind (arith, e))
unless-enough kind (Some i) t n e = absurd (grind (arith, e))

-- a row of a length of its kind is judged by how many of its positions are true
pub judged-counted : (kind : Kind) (xs : List Bool) (row : List ℕ) (n : ℕ) → has_length kind (length row) ≡ true → counted xs row ≡ Ok n → judged kind xs row ≡ Ok (enough kind n)
judged-counted kind xs row n h e =
    rw h (unless-enough kind (first_wide (length xs) 0 row) (trues (truths (valuation xs) row)) n e)
