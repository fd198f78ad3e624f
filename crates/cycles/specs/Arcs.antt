-- Arcs, each from a vertex to a vertex.
use Rattle.std.specs.Prelude.{◌≡◌, ℕ, ◌+◌, ◌*◌, ◌<◌, Bool, false, ◌&&◌, List, ◌==◌, nat_lt, slice_index_or}
use Rattle.std.specs.List.{list_any}
use Rattle.cycles.specs.declared.arcs.Arc.{Arc}

abbrev pub arc : ℕ → ℕ → Arc
arc u w = record { from = u; to = w }

-- whether there is an arc from u to w
abbrev pub has_arc : List Arc → ℕ → ℕ → Bool
has_arc arcs u w = list_any (λ x. x.from == u && x.to == w) arcs

-- a table that says of every two of n vertices, at the place u * n + w, whether there is an arc from u to w
abbrev pub Tells : ℕ → List Arc → List Bool → Type 0
Tells n arcs table = (u w : ℕ) → u < n → w < n → slice_index_or table (u * n + w) false ≡ has_arc arcs u w

-- whether an arc joins two of n vertices
abbrev pub joins : ℕ → Arc → Bool
joins n x = nat_lt x.from n && nat_lt x.to n
