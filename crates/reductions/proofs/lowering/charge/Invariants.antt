use Rattle.reductions.proofs.Adding.{Adding}
use Rattle.reductions.proofs.lowering.charge.Given as goal

abbrev pub invariant-loop-len : goal.invariant-loop-len
invariant-loop-len l = Adding l.fn.bill.counts l.cost.counts l.bill.counts l.times l.len
