-- Hamiltonian cycles: along arcs through each vertex once, and back to the first. A place is a position, a value a vertex.
use Rattle.std.specs.Prelude.{ℕ, ◌+◌, ◌%◌, Bool, not, ◌&&◌, List, [], ◌∷◌, ◌++◌, map, length, filter, ◌==◌, nat_lt, slice_index}
use Rattle.std.specs.List.{range_with_len, flat_map}
use Rattle.puzzles.specs.Boards.{Board}
use Rattle.puzzles.specs.Lines.{Line, at, place_lines, plain, slacked, value_lines}
use Rattle.puzzles.specs.Making.{makeable}
use Rattle.puzzles.specs.Words.{each_once, every}
use Rattle.cycles.specs.Arcs.{arc, has_arc, joins}
use Rattle.cycles.specs.declared.arcs.Arc.{Arc}

-- the subject's own words

-- the position after p: after the last comes the first
abbrev pub following : ℕ → ℕ → ℕ
following n p = (p + 1) % n

-- a vertex at each position, and each vertex once; vertex 0 first; an arc from each to the following, and from the last to the first
abbrev pub is_cycle : ℕ → List Arc → List ℕ → Bool
is_cycle n arcs a =
    every n (λ p. nat_lt (slice_index a p) n)
    && (each_once n a
    && (slice_index a 0 == 0
    && every n (λ p. has_arc arcs (slice_index a p) (slice_index a (following n p)))))

abbrev pub cycles_answer : ℕ → List Arc → List ℕ → Bool
cycles_answer n arcs a = (length a == n) && is_cycle n arcs a

-- the lines

-- two vertices without an arc from the one to the other
abbrev pub is_gap : List Arc → Arc → Bool
is_gap arcs x = not (x.from == x.to) && not (has_arc arcs x.from x.to)

-- all such pairs, by the first vertex and then by the second
abbrev pub all_gaps : ℕ → List Arc → List Arc
all_gaps n arcs = filter (is_gap arcs) (flat_map (λ u. map (arc u) (range_with_len 0 n)) (range_with_len 0 n))

-- not both of them, at position p and the following
abbrev pub gap_line : ℕ → Arc → ℕ → Line
gap_line n x p = slacked (at p x.from ∷ at (following n p) x.to ∷ [])

-- vertex 0 at position 0
abbrev pub start_line : Line
start_line = plain (at 0 0 ∷ [])

-- positions, vertices, the start, and each gap at each position
abbrev pub cycles_lines : ℕ → List Arc → List Line
cycles_lines n arcs =
    place_lines n n
    ++ (value_lines n n
    ++ (start_line ∷ flat_map (λ x. map (gap_line n x) (range_with_len 0 n)) (all_gaps n arcs)))

abbrev pub cycles : ℕ → List Arc → Board
cycles n arcs = record { size = n; places = n; lines = cycles_lines n arcs; answer = cycles_answer n arcs }

-- the fewest vertices, and the most
abbrev pub smallest : ℕ
smallest = 3

abbrev pub largest : ℕ
largest = 10

-- what can be made: arcs join vertices
abbrev pub cycles_makeable : ℕ → List Arc → Bool
cycles_makeable n arcs = makeable smallest largest (joins n) n arcs
