-- What a puzzle means, and the law that every puzzle shows: its answers and the solutions of its rows match one to one.
use Rattle.std.specs.Prelude.{◌≡◌, ℕ, ◌+◌, ◌*◌, Bool, true, ◌&&◌, List, ◌++◌, length, ◌==◌}
use Rattle.std.specs.List.{All}
use Rattle.rows.specs.declared.kinds.Kind.TheVariants.{Cover}
use Rattle.rows.specs.Truth.{valuation, all_hold}
use Rattle.puzzles.specs.Lines.{Inside, Line, all_met, board_values, place_lines, rows_from, slack_values, slacks, values_of}

pub record Board : Type 0 where
  -- values are 0 to size - 1
  pub size : ℕ
  -- an answer has one value for each place
  pub places : ℕ
  -- the lines, in the order of their rows
  pub lines : List Line
  -- whether a list of values is an answer, in the puzzle's own words
  pub answer : List ℕ → Bool

-- how many board variables there are, one for each place and value
abbrev pub cells : Board → ℕ
cells b = b.places * b.size

-- the number of variables, with the slacks
abbrev pub vars : Board → ℕ
vars b = cells b + slacks b.lines

-- the rows of kind 1, in order
abbrev pub rows : Board → List (List ℕ)
rows b = rows_from b.size (cells b) b.lines

-- a list of truth values for all variables that makes every row true
abbrev pub solution : Board → List Bool → Bool
solution b xs = length xs == vars b && all_hold Cover (valuation xs) (rows b)

-- the truth values of a filled board
abbrev pub encode : Board → List ℕ → List Bool
encode b a = board_values b.size b.places a ++ slack_values a b.lines

-- the filled board of truth values
abbrev pub decode : Board → List Bool → List ℕ
decode b xs = values_of b.size b.places xs

-- every answer comes from one solution and every solution gives one answer, by maps that undo each other
pub record Faithful (b : Board) : Type 0 where
  pub encodes : (a : List ℕ) → b.answer a ≡ true → (solution b (encode b a) ≡ true) × (decode b (encode b a) ≡ a)
  pub decodes : (xs : List Bool) → solution b xs ≡ true → (b.answer (decode b xs) ≡ true) × (encode b (decode b xs) ≡ xs)

-- what a puzzle shows of its own, so that the law follows
pub record Lined (b : Board) : Type 0 where
  -- first come the lines of the places
  pub rest : List Line
  pub starts : b.lines ≡ place_lines b.size b.places ++ rest
  -- every line lies on the board
  pub inside : All (Inside b.size b.places) b.lines
  -- the answers are the lists of values that meet every line
  pub meets : (a : List ℕ) → b.answer a ≡ (length a == b.places && all_met a b.lines)

abbrev pub LinedAreFaithful : Type 0
LinedAreFaithful = (b : Board) → Lined b → Faithful b
