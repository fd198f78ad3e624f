use Rattle.std.proofs.Common.{refl, ◌∙◌, rules}
use Rattle.puzzles.proofs.Makings.{entries-decide, fit-checked, makeable-checked}
use Rattle.cycles.proofs.LinkTables.{all-between}
use Rattle.cycles.specs.Arcs.{joins}
use Rattle.cycles.specs.Cycles.{largest, smallest}
use Rattle.cycles.proofs.puzzle.Cycles.make.Goals as goal

pub returns-in_err-check_entries-clause-makes : goal.returns-in_err-check_entries-clause-makes
returns-in_err-check_entries-clause-makes c =
    let n = c.args.size in
    let e = entries-decide smallest largest (joins n) n c.args.arcs.now c.first_outside.result c.in_ok-check_limits.ensures.0 c.first_outside.ensures in
    search rules

pub table_of_arcs-linked-requires-clause-between : goal.table_of_arcs-linked-requires-clause-between
table_of_arcs-linked-requires-clause-between c =
    let n = c.args.size in
    all-between n c.args.arcs.now (fit-checked smallest largest (joins n) n c.args.arcs.now c.first_outside.result c.in_ok-check_limits.ensures.0 c.first_outside.ensures c.in_ok-check_entries.ensures.0)

pub invariant_of-self : goal.invariant_of-self
invariant_of-self c =
    let n = c.args.size in
    record {
      made = makeable-checked smallest largest (joins n) n c.args.arcs.now c.first_outside.result c.in_ok-check_limits.ensures.0 c.first_outside.ensures c.in_ok-check_entries.ensures.0;
      told = c.table_of_arcs-linked.ensures;
      listed = c.of.ensures c.args.arcs.now c.table_of_arcs-linked.ensures;
    }

pub returns-clause-makes : goal.returns-clause-makes
returns-clause-makes c =
    let n = c.args.size in
    (entries-decide smallest largest (joins n) n c.args.arcs.now c.first_outside.result c.in_ok-check_limits.ensures.0 c.first_outside.ensures ∙ c.in_ok-check_entries.ensures.0, refl)
