use Rattle.std.proofs.Common.{◌+◌, Err, sym, ap, ◌∙◌, subst, arith}
use Rattle.std.proofs.lemmas.Bool.Decides.{nat_tests}
use Rattle.rows.proofs.Scans.{first-is-first}
use Rattle.rows.proofs.Positions.{Counting, counting-step, counting-stop, counting-end}
use Rattle.rows.proofs.judging.count_true.Goals as goal
use Rattle.rows.proofs.judging.count_true.Goals.{then-holds, else-holds}

pub loop-i-preserved : goal.loop-i-preserved
loop-i-preserved c =
    let k = counting-step c.args.values.now c.args.row.now c.loop-i.i c.loop-i.trues c.in-Some.holds (omega arith) (sym c.truth.ensures ∙ c.in-Some.is) c.loop-i.invariant in
    subst (Counting c.args.values.now c.args.row.now (c.loop-i.i + 1)) (grind (arith, nat_tests)) k

pub returns : goal.returns
returns c = record {
  value = sym (counting-end c.args.values.now c.args.row.now c.loop-i.i c.loop-i.trues (omega arith) c.loop-i.invariant);
  first = first-is-first _ c.args.row.now;
}

pub returns-in_default : goal.returns-in_default
returns-in_default c =
    let e = counting-stop c.args.values.now c.args.row.now c.loop-i.i c.loop-i.trues (omega arith) (sym c.truth.ensures ∙ c.in_default.is) c.loop-i.invariant in
    record { value = ap Err c.here.ensures ∙ sym e; first = first-is-first _ c.args.row.now }
