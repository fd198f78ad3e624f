use Rattle.search.proofs.Spaces.{Summing}
use Rattle.search.proofs.store.filling.space_of.Given as goal

abbrev pub invariant-loop-len : goal.invariant-loop-len
invariant-loop-len l = Summing l.bill.counts l.len l.space
