-- What the arithmetic of literals comes to: all that the laws use of it. `laws` is what `grind` is given for a law of rows.
use Rattle.std.specs.Prelude.{◌≡◌, ℕ, ◌*◌, ◌/◌, Bool}
use Rattle.std.proofs.Common.{arith}
use Rattle.std.proofs.lemmas.Bool.Decides.{nat_tests}
use Rattle.rows.specs.Literals.{truth_of}
use Rattle.rows.proofs.Opposites.{truth-opposite}

pub variable-helper : (h : ℕ) → 2 * h / 2 ≡ h
variable-helper h = omega arith

pub truth-helper : (v : ℕ → Bool) (h : ℕ) → truth_of v (2 * h) ≡ v h
unfolding truth_of
truth-helper v h = grind (arith, nat_tests)

pub ruleset laws = (arith, nat_tests, truth-helper, truth-opposite)
