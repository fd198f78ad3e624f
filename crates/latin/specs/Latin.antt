-- Latin squares: each symbol once in each row and column. A place is board row * size + column, a value a symbol.
use Rattle.std.specs.Prelude.{ℕ, ◌+◌, ◌*◌, Bool, ◌&&◌, List, ◌++◌, map, length, ◌==◌, nat_lt, slice_index}
use Rattle.std.specs.List.{range_with_len, flat_map}
use Rattle.puzzles.specs.Boards.{Board}
use Rattle.puzzles.specs.Givens.{all_given, fits, given_line}
use Rattle.puzzles.specs.Lines.{Line, at, place_lines, plain}
use Rattle.puzzles.specs.Making.{makeable}
use Rattle.puzzles.specs.Words.{each_once, every}
use Rattle.puzzles.specs.declared.givens.Given.{Given}

-- the subject's own words

-- the symbols of board row r, and of column c
abbrev pub row_symbols : ℕ → List ℕ → ℕ → List ℕ
row_symbols n a r = map (λ c. slice_index a (r * n + c)) (range_with_len 0 n)

abbrev pub column_symbols : ℕ → List ℕ → ℕ → List ℕ
column_symbols n a c = map (λ r. slice_index a (r * n + c)) (range_with_len 0 n)

-- a symbol at each place, and each symbol once in each row and each column
abbrev pub is_square : ℕ → List ℕ → Bool
is_square n a =
    every (n * n) (λ p. nat_lt (slice_index a p) n)
    && (every n (λ r. each_once n (row_symbols n a r))
    && every n (λ c. each_once n (column_symbols n a c)))

-- a square that holds the givens
abbrev pub latin_answer : ℕ → List Given → List ℕ → Bool
latin_answer n gs a = (length a == n * n) && (is_square n a && all_given gs a)

-- the lines

-- symbol s in board row r, and in column c
abbrev pub row_line : ℕ → ℕ → ℕ → Line
row_line n r s = plain (map (λ c. at (r * n + c) s) (range_with_len 0 n))

abbrev pub column_line : ℕ → ℕ → ℕ → Line
column_line n c s = plain (map (λ r. at (r * n + c) s) (range_with_len 0 n))

-- places, the symbols of each row, those of each column, and the givens
abbrev pub latin_lines : ℕ → List Given → List Line
latin_lines n gs =
    place_lines n (n * n)
    ++ (flat_map (λ r. map (row_line n r) (range_with_len 0 n)) (range_with_len 0 n)
    ++ (flat_map (λ c. map (column_line n c) (range_with_len 0 n)) (range_with_len 0 n)
    ++ map given_line gs))

abbrev pub latin : ℕ → List Given → Board
latin n gs = record { size = n; places = n * n; lines = latin_lines n gs; answer = latin_answer n gs }

-- the smallest square, and the largest
abbrev pub smallest : ℕ
smallest = 1

abbrev pub largest : ℕ
largest = 9

-- what can be made: givens are on the board
abbrev pub latin_makeable : ℕ → List Given → Bool
latin_makeable n gs = makeable smallest largest (fits n (n * n)) n gs
