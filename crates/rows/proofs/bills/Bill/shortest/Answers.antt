use Rattle.std.proofs.Common.{rules, tests, eqb, not, ◌∙◌}
use Rattle.std.proofs.lemmas.Iterator.{YieldsList-from_slice}
use Rattle.std.proofs.lemmas.Iterator.Search.{position_from_yields_List}
use Rattle.rows.proofs.Scans.{first-is-first, first-is-position}
use Rattle.rows.proofs.bills.Bill.shortest.Goals as goal

pub returns-clause-value : goal.returns-clause-value
returns-clause-value c =
    position_from_yields_List (λ n. not (eqb n 0)) _ _ _ c.position.ensures.ran (YieldsList-from_slice c.args.self.now.counts cc) (λ n b q k. search (rules, tests)) ∙ first-is-position (λ n. eqb n 0) c.args.self.now.counts

pub returns-clause-first : goal.returns-clause-first
returns-clause-first c = first-is-first _ c.args.self.now.counts
