use Rattle.std.proofs.Common.{rules, tests, Some, sym, ap, ◌∙◌}
use Rattle.solver.proofs.Refusals.{refused-while-owed}
use Rattle.solver.proofs.checks.check_ready.Goals as goal

pub returns-in-Some : goal.returns-in-Some
returns-in-Some c = (refused-while-owed c.args.owed.now.counts c.in-Some.len (search (rules, tests)) ∙ ap Some (sym c.here.ensures), tt)
