-- The rows of a board reach no variable that the board does not have.
use Rattle.std.proofs.Common.{◌≡◌, ℕ, ◌+◌, ◌*◌, ◌/◌, ◌<◌, ◌≤◌, true, false, cond, List, [], ◌∷◌, map, length, get_or, None, refl, arith}
use lib.Arith.{digits_lt}
use Rattle.std.specs.List.{All}
use Rattle.std.proofs.lemmas.List.Elements.{All-nil, All-cons, All-head, All-tail, All-append, All-map, All-weaker, All-get_or}
use Rattle.std.proofs.lemmas.Bool.Decides.{nat_tests}
use Rattle.rows.specs.Truth.{first_wide}
use Rattle.puzzles.specs.Boards.{Board, Lined, cells, rows, vars}
use Rattle.puzzles.specs.Lines.{Cell, Inside, Line, On, row_of, rows_from, slacks, variable_of}

-- where each variable is below n, none is too wide
pub not_wide : (n i : ℕ) (row : List ℕ) → All (λ l. l / 2 < n) row → first_wide n i row ≡ None
not_wide n i [] k = refl
not_wide n i (l ∷ row) k = let h = All-head (λ m. m / 2 < n) l row k in let e = not_wide n (i + 1) row (All-tail (λ m. m / 2 < n) l row k) in grind (arith, nat_tests)

-- the literals of cells on the board
pub cells-narrow : (size places n : ℕ) (cs : List Cell) → places * size ≤ n → All (On size places) cs → All (λ m. m / 2 < n) (map (λ c. 2 * variable_of size c) cs)
cells-narrow size places n cs h k = All-map (λ m. m / 2 < n) (λ c. 2 * variable_of size c) cs (All-weaker (On size places) (λ c. 2 * variable_of size c / 2 < n) (λ c i. let m = digits_lt i.0 i.1 in omega arith) cs k)

-- the row of a line on the board, with its slack at s
row-narrow : (size places s n : ℕ) (l : Line) → Inside size places l → places * size ≤ s → s + cond l.slack 1 0 ≤ n → All (λ m. m / 2 < n) (row_of size s l)
row-narrow size places s n l k h e =
    All-append (λ m. m / 2 < n) (map (λ c. 2 * variable_of size c) l.cells) (cond l.slack (2 * s ∷ []) [])
    (cells-narrow size places n l.cells (omega arith) k)
    (elim l.slack as (λ b. s + cond b 1 0 ≤ n → All (λ m. m / 2 < n) (cond b (2 * s ∷ []) [])) [ true ↦ λ u. All-cons (λ m. m / 2 < n) (2 * s) [] (omega arith) (All-nil (λ m. m / 2 < n)) | false ↦ λ u. All-nil (λ m. m / 2 < n) ] e)

-- each row of lines on the board, with slacks from s on
rows-narrow : (size places s n : ℕ) (ls : List Line) → All (Inside size places) ls → places * size ≤ s → s + slacks ls ≤ n → All (All (λ l. l / 2 < n)) (rows_from size s ls)
rows-narrow size places s n [] k h e = All-nil (All (λ l. l / 2 < n))
rows-narrow size places s n (l ∷ ls) k h e =
    All-cons (All (λ m. m / 2 < n)) (row_of size s l) (rows_from size (s + cond l.slack 1 0) ls) (row-narrow size places s n l (All-head (Inside size places) l ls k) h (omega arith)) (rows-narrow size places (s + cond l.slack 1 0) n ls (All-tail (Inside size places) l ls k) (omega arith) (omega arith))

-- each row of a board
pub board-narrow : (b : Board) → Lined b → (i : ℕ) → i < length (rows b) → first_wide (vars b) 0 (get_or (rows b) i []) ≡ None
board-narrow b k i h =
    not_wide (vars b) 0 (get_or (rows b) i []) (All-get_or (All (λ l. l / 2 < vars b)) (rows b) i [] h (rows-narrow b.size b.places (cells b) (vars b) b.lines k.inside (omega arith) (omega arith)))
