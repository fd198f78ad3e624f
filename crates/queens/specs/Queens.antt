-- Queens: one in each row and column, at most one on each diagonal. A place is a board row, a value a column.
use Rattle.std.specs.Prelude.{ℕ, ◌+◌, ◌-◌, ◌*◌, Bool, not, ◌&&◌, ◌||◌, List, ◌++◌, map, length, filter, ◌==◌, nat_eq, nat_lt, slice_index}
use Rattle.std.specs.List.{range_with_len, flat_map}
use Rattle.puzzles.specs.Boards.{Board}
use Rattle.puzzles.specs.Givens.{all_given, fits, given_line}
use Rattle.puzzles.specs.Lines.{Cell, Line, at, place_lines, slacked, value_lines}
use Rattle.puzzles.specs.Making.{makeable}
use Rattle.puzzles.specs.Words.{each_once, every}
use Rattle.puzzles.specs.declared.givens.Given.{Given}

-- the subject's own words

-- the queens of rows i and j stand on one diagonal
abbrev pub aligned : List ℕ → ℕ → ℕ → Bool
aligned a i j = slice_index a i + j == slice_index a j + i || slice_index a i + i == slice_index a j + j

-- a queen in each row, on the board; one in each column; no two on a diagonal; the givens held
abbrev pub queens_answer : ℕ → List Given → List ℕ → Bool
queens_answer n gs a =
    (length a == n)
    && (every n (λ i. nat_lt (slice_index a i) n)
    && (each_once n a
    && (every n (λ j. every j (λ i. not (aligned a i j)))
    && all_given gs a)))

-- the lines

-- all cells, by board row and then by column
abbrev pub all_cells : ℕ → List Cell
all_cells n = flat_map (λ p. map (at p) (range_with_len 0 n)) (range_with_len 0 n)

-- the diagonal on which column - row is d - n
abbrev pub falling : ℕ → ℕ → Line
falling n d = slacked (filter (λ c. nat_eq (c.value + n) (c.place + d)) (all_cells n))

-- the diagonal on which row + column is d
abbrev pub rising : ℕ → ℕ → Line
rising n d = slacked (filter (λ c. nat_eq (c.place + c.value) d) (all_cells n))

-- places, columns, the diagonals of two cells or more of either way, and the givens
abbrev pub queens_lines : ℕ → List Given → List Line
queens_lines n gs =
    place_lines n n
    ++ (value_lines n n
    ++ (map (falling n) (range_with_len 2 (2 * n - 3))
    ++ (map (rising n) (range_with_len 1 (2 * n - 3))
    ++ map given_line gs)))

abbrev pub queens : ℕ → List Given → Board
queens n gs = record { size = n; places = n; lines = queens_lines n gs; answer = queens_answer n gs }

-- the smallest board, and the largest
abbrev pub smallest : ℕ
smallest = 1

abbrev pub largest : ℕ
largest = 12

-- what can be made: givens are on the board
abbrev pub queens_makeable : ℕ → List Given → Bool
queens_makeable n gs = makeable smallest largest (fits n n) n gs
