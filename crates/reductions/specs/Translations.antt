-- The four translations: what each does with one row.
use Rattle.std.specs.Prelude.{ℕ, zero, suc, ◌+◌, ◌-◌, ◌*◌, Bool, true, not, cond, ◌&&◌, ◌||◌, ◌==◌, List, [], ◌∷◌, ◌++◌, map, Option}
use Rattle.std.specs.Bool.{beq}
use Rattle.rows.specs.declared.kinds.Kind.{Kind}
use Rattle.rows.specs.declared.kinds.Kind.TheVariants.{Cover, Clauses, Short, Triples}
use Rattle.rows.specs.declared.stops.Fault.{Fault}
use Rattle.rows.specs.declared.stops.Stop.TheVariants.{Make}
use Rattle.rows.specs.Literals.{opposite}
use Rattle.rows.specs.Stops.{stop_if}
use Rattle.reductions.specs.Rules.{Rule}

-- pairs: the row itself, and not both of any two positions

abbrev pub not_with : ℕ → List ℕ → List (List ℕ)
not_with l row = map (λ k. opposite l ∷ opposite k ∷ []) row

abbrev pub not_both : List ℕ → List (List ℕ)
not_both [] = []
not_both (l ∷ row) = not_with l row ++ not_both row

abbrev pub pairs : Rule
pairs = record {
  above = Cover;
  below = Clauses;
  helpers = λ k. 0;
  rows = λ row h. row ∷ not_both row;
  values = λ ts. [];
}

-- chain: while more than three literals stand, a helper takes the place of the first two

-- y is true exactly when p or q is
abbrev pub either : ℕ → ℕ → ℕ → List (List ℕ)
either y p q = (opposite y ∷ p ∷ q ∷ []) ∷ (y ∷ opposite p ∷ []) ∷ (y ∷ opposite q ∷ []) ∷ []

-- what p and the literals behind it become
abbrev pub links : ℕ → List ℕ → ℕ → List (List ℕ)
links p [] h = (p ∷ []) ∷ []
links p (q ∷ []) h = (p ∷ q ∷ []) ∷ []
links p (q ∷ a ∷ []) h = (p ∷ q ∷ a ∷ []) ∷ []
links p (q ∷ a ∷ b ∷ row) h = either (2 * h) p q ++ links (2 * h) (a ∷ b ∷ row) (h + 1)

abbrev pub chain_rows : List ℕ → ℕ → List (List ℕ)
chain_rows [] h = [] ∷ []
chain_rows (l ∷ row) h = links l row h

abbrev pub link_values : Bool → List Bool → List Bool
link_values p [] = []
link_values p (q ∷ []) = []
link_values p (q ∷ a ∷ []) = []
link_values p (q ∷ a ∷ b ∷ ts) = (p || q) ∷ link_values (p || q) (a ∷ b ∷ ts)

abbrev pub chain_values : List Bool → List Bool
chain_values [] = []
chain_values (t ∷ ts) = link_values t ts

abbrev pub chain : Rule
chain = record {
  above = Clauses;
  below = Short;
  helpers = λ k. k - 3;
  rows = chain_rows;
  values = chain_values;
}

-- triples: a gadget for each length; there are no rows of four literals or more

-- with helpers a, b, c, d, e
abbrev pub gadget : ℕ → ℕ → ℕ → ℕ → ℕ → ℕ → ℕ → ℕ → List (List ℕ)
gadget p q r a b c d e = (opposite p ∷ a ∷ b ∷ []) ∷ (q ∷ b ∷ c ∷ []) ∷ (opposite r ∷ c ∷ d ∷ []) ∷ (a ∷ c ∷ e ∷ []) ∷ []

abbrev pub triples_rows : List ℕ → ℕ → List (List ℕ)
triples_rows [] h = (2 * h ∷ 2 * h ∷ 2 * h ∷ []) ∷ []
triples_rows (p ∷ []) h = (opposite p ∷ opposite p ∷ 2 * h ∷ []) ∷ []
triples_rows (p ∷ q ∷ []) h = (opposite p ∷ opposite q ∷ 2 * h ∷ []) ∷ []
triples_rows (p ∷ q ∷ r ∷ []) h = gadget p q r (2 * h) (2 * (h + 1)) (2 * (h + 2)) (2 * (h + 3)) (2 * (h + 4))
triples_rows (p ∷ q ∷ r ∷ s ∷ row) h = []

abbrev pub triples_helpers : ℕ → ℕ
triples_helpers zero = 1
triples_helpers (suc zero) = 1
triples_helpers (suc (suc zero)) = 1
triples_helpers (suc (suc (suc zero))) = 5
triples_helpers (suc (suc (suc (suc k)))) = 0

abbrev pub triples_values : List Bool → List Bool
triples_values [] = true ∷ []
triples_values (p ∷ []) = p ∷ []
triples_values (p ∷ q ∷ []) = (p && q) ∷ []
triples_values (p ∷ q ∷ r ∷ []) = (p && q) ∷ (p && not q) ∷ not (p || q) ∷ ((p || q) && r) ∷ not (beq p q) ∷ []
triples_values (p ∷ q ∷ r ∷ s ∷ ts) = []

abbrev pub triples : Rule
triples = record {
  above = Short;
  below = Triples;
  helpers = triples_helpers;
  rows = triples_rows;
  values = triples_values;
}

-- narrow: rows pass unchanged to the kind that wants as many true positions and has more lengths

abbrev pub wider : Kind → Kind
wider Cover = Cover
wider Clauses = Clauses
wider Short = Clauses
wider Triples = Cover

abbrev pub narrow : Kind → Rule
narrow kind = record {
  above = kind;
  below = wider kind;
  helpers = λ k. 0;
  rows = λ row h. row ∷ [];
  values = λ ts. [];
}

-- the kinds that have a wider one: making takes the lowest where another is asked for, and the check before it refuses
abbrev pub narrow_kind : ℕ → Kind
narrow_kind n = cond (n == 4) Triples Short

abbrev pub narrow_stop : ℕ → Option Fault
narrow_stop n = stop_if (not (n == 3 || n == 4)) (Make n)
