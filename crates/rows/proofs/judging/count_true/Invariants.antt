use Rattle.rows.proofs.Positions.{Counting}
use Rattle.rows.proofs.judging.count_true.Given as goal

abbrev pub invariant-loop-i : goal.invariant-loop-i
invariant-loop-i l = Counting l.values l.row l.i l.trues
