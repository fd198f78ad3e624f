-- A search for the first row that is not true.
use Rattle.std.proofs.Common.{◌≡◌, ℕ, ◌+◌, ◌<◌, ◌≤◌, Bool, true, false, List, [], ◌∷◌, length, get_or, Some, None, Ok, Option, Result, refl, ◌∙◌}
use Rattle.std.proofs.lemmas.Bool.{le-leb, eq-eqb}
use Rattle.rows.specs.declared.kinds.Kind.TheVariants.{Cover}
use Rattle.rows.specs.declared.stops.Fault.{Fault}
use Rattle.rows.specs.Kinds.{longest}
use Rattle.rows.specs.Truth.{valuation, holds, first_false, first_wide}
use Rattle.rows.specs.Judging.{judged}
use Rattle.puzzles.specs.Boards.{Board, Lined, rows, vars}
use Rattle.puzzles.specs.Calls.{failing}
use Rattle.puzzles.proofs.Narrow.{board-narrow}

-- the judge refuses no row of a board
pub judged-board : (b : Board) → Lined b → (xs : List Bool) → length xs ≡ vars b → (i : ℕ) (row : List ℕ) → i < length (rows b) → row ≡ get_or (rows b) i [] → length row ≤ longest → judged Cover xs row ≡ Ok (holds Cover (valuation xs) row)
judged-board b k xs n i row h e l =
    let w : first_wide (length xs) 0 row ≡ None = rw (n, e) (board-narrow b k i h) in
    rw (le-leb (length row) longest l, w)

-- a true row is passed over
pub false-turn : (v : ℕ → Bool) (i next : ℕ) (row : List ℕ) (left rest : List (List ℕ)) → left ≡ row ∷ rest → next ≡ i + 1 → holds Cover v row ≡ true → first_false Cover v i left ≡ first_false Cover v next rest
false-turn v i next row left rest e n t = rw (e, n, t)

-- a row that is not true is the first
pub false-found : (b : Board) (xs : List Bool) (i found : ℕ) (row : List ℕ) (left rest : List (List ℕ)) → length xs ≡ vars b → first_false Cover (valuation xs) 0 (rows b) ≡ first_false Cover (valuation xs) i left → left ≡ row ∷ rest → found ≡ i → holds Cover (valuation xs) row ≡ false → ◌≡◌ {A = Result (Option ℕ) Fault} (Ok (Some found)) (failing b xs)
false-found b xs i found row left rest n p e f h = let q : first_false Cover (valuation xs) 0 (rows b) ≡ Some found = p ∙ rw (e, h, f) refl in rw (eq-eqb (length xs) (vars b) n, q) refl
