-- The last literal of a row.
use Rattle.std.proofs.Common.{◌≡◌, ℕ, ◌*◌, ◌/◌, ◌<◌, ◌≤◌, Bool, List, [], ◌∷◌, ◌++◌, length, None, sym, ap, ◌∙◌, arith}
use Rattle.std.specs.Result.{result_unwrap_or}
use Rattle.std.specs.List.{All}
use Rattle.std.proofs.lemmas.List.Elements.{All-head, All-tail, All-weaker}
use Rattle.std.proofs.lemmas.List.{same_from_push, length_push}
use Rattle.rows.specs.Truth.{valuation, truths, trues, first_wide}
use Rattle.rows.specs.Judging.{counted}
use Rattle.puzzles.proofs.Narrow.{not_wide}

-- what holds of all holds of the last
pub all-last : (P : ℕ → Type 0) (xs : List ℕ) (x : ℕ) → All P (xs ++ x ∷ []) → P x
all-last P [] x k = All-head P x [] k
all-last P (y ∷ xs) x k = all-last P xs x (All-tail P y (xs ++ x ∷ []) k)

-- a row that ends in the literal of variable s
pub last-is : (row others rest : List ℕ) (last s : ℕ) → row ≡ rest ++ last ∷ [] → row ≡ others ++ (2 * s) ∷ [] → (rest ≡ others) × (last / 2 ≡ s)
last-is row others rest last s e f = let q = same_from_push rest others last (2 * s) (sym e ∙ f) in let r = q.1 in (q.0, omega arith)

-- no row without literals does
pub last-not : {A : Type 0} (row others : List ℕ) (x : ℕ) → length row ≡ 0 → row ≡ others ++ x ∷ [] → A
last-not row others x n e = let m = ap length e in absurd (omega (arith, length_push others x))

-- how many of the others are true
pub others-count : (cells : ℕ) (xs : List Bool) (others : List ℕ) → cells ≤ length xs → All (λ l. l / 2 < cells) others → result_unwrap_or (counted xs others) 0 ≡ trues (truths (valuation xs) others)
others-count cells xs others h k =
    let w : first_wide (length xs) 0 others ≡ None = not_wide (length xs) 0 others (All-weaker (λ l. l / 2 < cells) (λ l. l / 2 < length xs) (λ l i. omega arith) others k) in
    rw w
