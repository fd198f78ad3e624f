use Rattle.std.proofs.Common.{rules, tests}
use Rattle.reductions.proofs.Adding.{adding-more}
use Rattle.reductions.proofs.lowering.charge.Goals as goal

pub loop-len-preserved : goal.loop-len-preserved
loop-len-preserved c = adding-more c.args.bill.now.counts c.args.cost.now.counts c.loop-len.bill.counts c.args.times c.loop-len.len c.loop-len.invariant (search (rules, tests))
