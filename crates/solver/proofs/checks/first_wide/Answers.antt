use Rattle.std.proofs.Common.{rules, tests, ◌/◌, ltb, not, ◌∙◌}
use Rattle.std.proofs.lemmas.Iterator.{YieldsList-from_slice}
use Rattle.std.proofs.lemmas.Iterator.Search.{position_from_yields_List}
use Rattle.rows.proofs.Scans.{first-is-position}
use Rattle.solver.proofs.checks.first_wide.Goals as goal

pub returns : goal.returns
returns c =
    let at = position_from_yields_List (λ l. not (ltb (l / 2) c.args.vars)) _ _ c.position.result c.position.ensures.ran (YieldsList-from_slice c.args.row.now cc) (λ l b q k. search (rules, tests)) in
    at ∙ first-is-position (λ l. ltb (l / 2) c.args.vars) c.args.row.now
