use Rattle.reductions.proofs.BillsBelow.{Lowering}
use Rattle.reductions.proofs.lowering.lower.Given as goal

abbrev pub invariant-loop-len : goal.invariant-loop-len
invariant-loop-len g l = Lowering (g.T.Translation.rule l.rule) l.bill.counts l.len l.helpers l.below.counts
