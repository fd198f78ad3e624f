use Rattle.std.proofs.Common.{◌*◌, refl, ◌∙◌, rules}
use Rattle.puzzles.proofs.Makings.{entries-decide, makeable-checked}
use Rattle.puzzles.specs.Givens.{fits}
use Rattle.latin.specs.Latin.{largest, smallest}
use Rattle.latin.proofs.puzzle.Latin.make.Goals as goal

pub returns-in_err-check_entries-clause-makes : goal.returns-in_err-check_entries-clause-makes
returns-in_err-check_entries-clause-makes c =
    let n = c.args.size in
    let e = entries-decide smallest largest (fits n (n * n)) n c.args.givens.now c.first_outside.result c.in_ok-check_limits.ensures.0 c.first_outside.ensures in
    search rules

pub invariant_of-self : goal.invariant_of-self
invariant_of-self c =
    let n = c.args.size in
    record { made = makeable-checked smallest largest (fits n (n * n)) n c.args.givens.now c.first_outside.result c.in_ok-check_limits.ensures.0 c.first_outside.ensures c.in_ok-check_entries.ensures.0 }

pub returns-clause-makes : goal.returns-clause-makes
returns-clause-makes c =
    let n = c.args.size in
    (entries-decide smallest largest (fits n (n * n)) n c.args.givens.now c.first_outside.result c.in_ok-check_limits.ensures.0 c.first_outside.ensures ∙ c.in_ok-check_entries.ensures.0, refl)
