-- The row that is taken comes first: most wrong meanings let one through.
use Rattle.std.proofs.Common.{rules, tests, Some, sym, ap, ◌∙◌}
use Rattle.solver.proofs.Refusals.{not-refused, refused-by-bill, refused-by-literal, refused-by-length}
use Rattle.solver.proofs.checks.check_row.Goals as goal

pub returns : goal.returns
returns c = (not-refused c.args.kind c.args.vars c.args.owed.now.counts c.args.row.now (search (rules, tests)) (search (rules, tests)) (search (rules, tests)), tt)

pub returns-then-owed-len-eq0 : goal.returns-then-owed-len-eq0
returns-then-owed-len-eq0 c = (refused-by-bill c.args.kind c.args.vars c.args.owed.now.counts c.args.row.now (search (rules, tests)) (search (rules, tests)) (search (rules, tests)) ∙ ap Some (sym c.here-then-owed-len-eq0.ensures), tt)

pub returns-in-Some : goal.returns-in-Some
returns-in-Some c = (refused-by-literal c.args.kind c.args.vars c.args.owed.now.counts c.args.row.now (search (rules, tests)) c.in-Some.position (search (rules, tests)) ∙ ap Some (sym c.here-in-Some.ensures), tt)

pub returns-then-not-has_length : goal.returns-then-not-has_length
returns-then-not-has_length c = (refused-by-length c.args.kind c.args.vars c.args.owed.now.counts c.args.row.now (search (rules, tests)) ∙ ap Some (sym c.here.ensures), tt)
