-- Making a puzzle from what its checks found.
use Rattle.std.proofs.Common.{◌≡◌, ℕ, ◌+◌, Bool, true, not, List, [], ◌∷◌, length, Some, None, Option, position, refl, sym, ◌∙◌, arith}
use Rattle.std.proofs.lemmas.Bool.Decides.{nat_tests}
use Rattle.std.specs.List.{list_all}
use Rattle.rows.specs.Firsts.{first_failing}
use Rattle.rows.proofs.Scans.{first-is-position}
use Rattle.puzzles.specs.Making.{entry_stop, limits_stop, make_stop, makeable}

-- where there is none outside all entries fit
outside-fit : {X : Type 0} (test : X → Bool) (i : ℕ) (xs : List X) → first_failing test i xs ≡ None → list_all test xs ≡ true
outside-fit test i [] e = refl
outside-fit test i (x ∷ xs) e = let f = outside-fit test (i + 1) xs in grind (arith, nat_tests)

-- no stop at an entry, so none is out of range
none-outside : (o : Option ℕ) → entry_stop o ≡ None → o ≡ None
none-outside None e = refl
none-outside (Some i) e = cc

module _ {X : Type 0} (least largest : ℕ) (fits : X → Bool) (n : ℕ) (xs : List X) (outside : Option ℕ) (limits : limits_stop least largest n (length xs) ≡ None) (found : outside ≡ position (λ x. not (fits x)) xs) where
  -- past size and number the entries decide
  pub entries-decide : make_stop least largest fits n xs ≡ entry_stop outside
  entries-decide = let e = first-is-position fits xs in rw (limits, found, e) refl

  -- where no check finds a stop all entries are in range
  pub fit-checked : entry_stop outside ≡ None → list_all fits xs ≡ true
  fit-checked e = outside-fit fits 0 xs (sym (first-is-position fits xs) ∙ (sym found ∙ none-outside outside e))

  -- and it can be made
  pub makeable-checked : entry_stop outside ≡ None → makeable least largest fits n xs ≡ true
  makeable-checked e = let f = fit-checked e in grind (arith, nat_tests)
