-- What puzzles have in common: values at places, and lines of cells of which one is taken.
use Rattle.std.specs.Prelude.{ℕ, ◌+◌, ◌*◌, ◌/◌, ◌%◌, ◌<◌, Bool, true, false, cond, not, ◌&&◌, List, [], ◌∷◌, ◌++◌, map, take, drop, ◌==◌, nat_eq, nat_le, slice_index}
use Rattle.std.specs.List.{range_with_len, prefix_len, All}
use Rattle.rows.specs.Truth.{trues}

-- a value at a place
pub record Cell : Type 0 where
  pub place : ℕ
  pub value : ℕ

-- exactly one of the cells is taken, or at most one where the line has a slack
pub record Line : Type 0 where
  pub cells : List Cell
  pub slack : Bool

abbrev pub at : ℕ → ℕ → Cell
at p v = record { place = p; value = v }

abbrev pub plain : List Cell → Line
plain cs = record { cells = cs; slack = false }

abbrev pub slacked : List Cell → Line
slacked cs = record { cells = cs; slack = true }

-- a cell, and a line, on a board of so many places and values
abbrev pub On : ℕ → ℕ → Cell → Type 0
On size places c = (c.place < places) × (c.value < size)

abbrev pub Inside : ℕ → ℕ → Line → Type 0
Inside size places l = All (On size places) l.cells

-- whether the values a, one for each place, have the cell's value at its place
abbrev pub taken : List ℕ → Cell → Bool
taken a c = slice_index a c.place == c.value

-- how many of the cells are taken
abbrev pub hits : List ℕ → List Cell → ℕ
hits a cs = trues (map (taken a) cs)

abbrev pub met : List ℕ → Line → Bool
met a l = cond l.slack (nat_le (hits a l.cells) 1) (hits a l.cells == 1)

abbrev pub all_met : List ℕ → List Line → Bool
all_met a [] = true
all_met a (l ∷ ls) = met a l && all_met a ls

-- each place has one value: a line for each place, by values
abbrev pub place_lines : ℕ → ℕ → List Line
place_lines size places = map (λ p. plain (map (at p) (range_with_len 0 size))) (range_with_len 0 places)

-- each value has one place: a line for each value, by places
abbrev pub value_lines : ℕ → ℕ → List Line
value_lines size places = map (λ v. plain (map (λ p. at p v) (range_with_len 0 places))) (range_with_len 0 size)

-- the rows of lines: the variable of a cell is place * size + value, and slack variables follow from s on, in the order of their rows
abbrev pub variable_of : ℕ → Cell → ℕ
variable_of size c = c.place * size + c.value

abbrev pub row_of : ℕ → ℕ → Line → List ℕ
row_of size s l = map (λ c. 2 * variable_of size c) l.cells ++ cond l.slack (2 * s ∷ []) []

abbrev pub rows_from : ℕ → ℕ → List Line → List (List ℕ)
rows_from size s [] = []
rows_from size s (l ∷ ls) = row_of size s l ∷ rows_from size (s + cond l.slack 1 0) ls

abbrev pub slacks : List Line → ℕ
slacks [] = 0
slacks (l ∷ ls) = cond l.slack 1 0 + slacks ls

-- the truth values of the board variables: number i is true where the value at place i / size is i % size
abbrev pub board_values : ℕ → ℕ → List ℕ → List Bool
board_values size places a = map (λ i. nat_eq (slice_index a (i / size)) (i % size)) (range_with_len 0 (places * size))

-- and of the slacks: true where no cell of the line is taken
abbrev pub slack_values : List ℕ → List Line → List Bool
slack_values a [] = []
slack_values a (l ∷ ls) = cond l.slack ((hits a l.cells == 0) ∷ []) [] ++ slack_values a ls

-- the value at a place is that of its first true board variable
abbrev pub values_of : ℕ → ℕ → List Bool → List ℕ
values_of size places xs = map (λ p. prefix_len not (take size (drop (p * size) xs))) (range_with_len 0 places)
