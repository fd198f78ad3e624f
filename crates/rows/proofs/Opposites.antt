-- The opposite of a literal.
use Rattle.std.proofs.Common.{◌≡◌, ℕ, ◌/◌, Bool, not, arith}
use Rattle.std.proofs.lemmas.Bool.Decides.{nat_tests}
use Rattle.rows.specs.Literals.{truth_of, opposite}

pub variable-opposite : (l : ℕ) → opposite l / 2 ≡ l / 2
unfolding opposite
variable-opposite l = grind (arith, nat_tests)

pub truth-opposite : (v : ℕ → Bool) (l : ℕ) → truth_of v (opposite l) ≡ not (truth_of v l)
unfolding truth_of opposite
truth-opposite v l = grind (arith, nat_tests)
