use Rattle.std.specs.Fmt.{IsPlainFormatter}
use Rattle.rows.proofs.Wording.{Part}
use Rattle.rows.proofs.bills.BillDisplay.fmt.Given as goal

abbrev pub invariant-loop-len : goal.invariant-loop-len
invariant-loop-len g l = IsPlainFormatter l.initial.f → Part g.W.Write.write_str_gives l.initial.f l.self.counts l.any l.len-counter l.f
