-- What a bill comes to below a reduction.
use Rattle.std.specs.Prelude.{◌≡◌, ℕ, ◌+◌, ◌-◌, ◌*◌, not, ◌&&◌, cond, List, [], ◌∷◌, map, replicate, if◌then◌else◌, ◌==◌, Some, None, Ok, Err, Option, Result, nat_le, slice_index, slice_set}
use Rattle.std.specs.List.{range_with_len}
use Rattle.rows.specs.declared.bills.Bill.{Bill}
use Rattle.rows.specs.declared.stops.Fault.{Fault}
use Rattle.rows.specs.declared.stops.Stop.TheVariants.{Big}
use Rattle.rows.specs.Bills.{counts_within}
use Rattle.rows.specs.Kinds.{has_length, lengths}
use Rattle.rows.specs.Literals.{within}
use Rattle.rows.specs.Stops.{stop_if}
use Rattle.reductions.specs.Rules.{Rule, lengths_below}

-- how often a length is among lengths
abbrev pub occurs : ℕ → List ℕ → ℕ
occurs l [] = 0
occurs l (k ∷ ks) = cond (l == k) 1 0 + occurs l ks

-- how many rows of length l below come from counts of rows of lengths k, k + 1, .. above
abbrev pub charged : Rule → ℕ → ℕ → List ℕ → ℕ
charged t l k [] = 0
charged t l k (c ∷ cs) = c * occurs l (lengths_below t k) + charged t l (k + 1) cs

-- how many helpers these rows get
abbrev pub helped : Rule → ℕ → List ℕ → ℕ
helped t k [] = 0
helped t k (c ∷ cs) = c * t.helpers k + helped t (k + 1) cs

-- the bill below
unfoldable pub bill_below : Rule → List ℕ → List ℕ
bill_below t counts = map (λ l. charged t l 0 counts) (range_with_len 0 lengths)

-- a bill after rows of these lengths were posted
abbrev pub less : List ℕ → List ℕ → List ℕ
less [] counts = counts
less (l ∷ ls) counts = less ls (slice_set counts l (slice_index counts l - 1))

-- how many rows of each length a row of k literals becomes; none where the kind above lacks the length
unfoldable pub cost : Rule → ℕ → List ℕ
cost t k = if has_length t.above k then map (λ l. occurs l (lengths_below t k)) (range_with_len 0 lengths) else replicate lengths 0

-- over the limits of the kind above
abbrev pub own_stop : Rule → ℕ → List ℕ → Option Fault
own_stop t n counts = stop_if (not (nat_le n within && counts_within t.above 0 counts)) Big

-- the variables and the bill below, or the stop where those above are over the limits
abbrev pub Lowers : Rule → ℕ → List ℕ → Result (ℕ × Bill) Fault → Type 0
Lowers t n counts (Ok r) = (own_stop t n counts ≡ None) × (r.0 ≡ n + helped t 0 counts) × (r.1.counts ≡ bill_below t counts)
Lowers t n counts (Err f) = own_stop t n counts ≡ Some f
