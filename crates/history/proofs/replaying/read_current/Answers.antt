use Rattle.std.proofs.Common.{◌∙◌, sym, arith}
use Rattle.history.proofs.Reading.{read-more}
use Rattle.history.proofs.replaying.read_current.Goals as goal

pub loop-i-init : goal.loop-i-init
loop-i-init g c xs is = (omega arith, c.new-values.ensures.items)

pub loop-i-preserved : goal.loop-i-preserved
loop-i-preserved g c = read-more _ _ _ c.loop-i.i c.in-Some.value (sym c.value.ensures ∙ c.in-Some.is) c.in_ok-push.ensures.items c.loop-i.invariant
