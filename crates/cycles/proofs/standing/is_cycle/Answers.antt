use Rattle.std.proofs.Common.{length, refl, arith}
use Rattle.std.proofs.lemmas.Bool.Decides.{nat_tests}
use Rattle.cycles.proofs.Checked.{cycle_checked}
use Rattle.cycles.proofs.standing.is_cycle.Goals as goal

pub returns-then-answer-eq0 : goal.returns-then-answer-eq0
returns-then-answer-eq0 c = λ arcs t.
    let e = cycle_checked (length c.args.answer.now) arcs c.args.linked.now c.args.answer.now c.requires.some t refl in
    grind (arith, nat_tests)

pub returns-else-answer-eq0 : goal.returns-else-answer-eq0
returns-else-answer-eq0 c = λ arcs t.
    let e = cycle_checked (length c.args.answer.now) arcs c.args.linked.now c.args.answer.now c.requires.some t refl in
    grind (arith, nat_tests)
