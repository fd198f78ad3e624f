-- Givens: values that every answer has at a place.
use Rattle.std.specs.Prelude.{ℕ, Bool, ◌&&◌, List, [], ◌∷◌, length, ◌==◌, nat_lt, slice_index}
use Rattle.std.specs.List.{list_all}
use Rattle.puzzles.specs.Lines.{Line, at, plain}
use Rattle.puzzles.specs.declared.givens.Given.{Given}

-- every given stands in a list of values: its place is there, and has its value
abbrev pub all_given : List Given → List ℕ → Bool
all_given gs a = list_all (λ g. nat_lt g.place (length a) && slice_index a g.place == g.value) gs

-- the line of a given: its one cell
abbrev pub given_line : Given → Line
given_line g = plain (at g.place g.value ∷ [])

-- whether a given is on a board of so many places and values
abbrev pub fits : ℕ → ℕ → Given → Bool
fits size places g = nat_lt g.place places && nat_lt g.value size
