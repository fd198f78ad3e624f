use Rattle.std.proofs.Common.{rules, tests, ◌∙◌}
use Rattle.std.proofs.lemmas.Iterator.{YieldsList-from_slice}
use Rattle.std.proofs.lemmas.Iterator.Consumers.{YieldsList-from_enumerate}
use Rattle.std.proofs.lemmas.Iterator.Search.{all_from_yields_List}
use Rattle.rows.specs.Bills.{count_within}
use Rattle.rows.proofs.Limits.{counts_within-is}
use Rattle.rows.proofs.bills.Bill.is_within.Goals as goal

pub returns : goal.returns
returns c =
    let all = all_from_yields_List (λ p. count_within c.args.kind p.0 p.1) _ _ _ c.all.ensures.ran (YieldsList-from_enumerate (YieldsList-from_slice c.args.self.now.counts (cc)) cc) (λ p b q k. search (rules, tests)) in
    all ∙ counts_within-is c.args.kind 0 c.args.self.now.counts
