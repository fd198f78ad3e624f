-- What a puzzle that was made keeps.
use Rattle.std.proofs.Common.{◌≡◌, ℕ, ◌≤◌, Bool, true, List, arith}
use Rattle.std.specs.List.{list_all}
use Rattle.std.proofs.lemmas.Bool.Decides.{nat_tests}
use Rattle.puzzles.specs.Making.{makeable}

module _ {X : Type 0} (least largest : ℕ) (fits : X → Bool) (n : ℕ) (xs : List X) (e : makeable least largest fits n xs ≡ true) where
  -- its size is in range
  pub makeable-size : (least ≤ n) × (n ≤ largest)
  makeable-size = (grind (arith, nat_tests), grind (arith, nat_tests))

  -- each of them is in range
  pub makeable-fit : list_all fits xs ≡ true
  makeable-fit = grind (arith, nat_tests)
