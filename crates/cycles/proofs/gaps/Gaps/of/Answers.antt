use Rattle.std.proofs.Common.{◌≡◌, ◌*◌, List, sym, ◌∙◌, arith}
use Rattle.std.proofs.lemmas.Nat.{mul-le}
use Rattle.std.proofs.lemmas.List.{length-set}
use Rattle.cycles.proofs.GapLists.{gap-added, gap-passed, gap-told, gaps-listed}
use Rattle.cycles.specs.Arcs.{Tells}
use Rattle.cycles.specs.Cycles.{largest}
use Rattle.cycles.specs.declared.arcs.Arc.{Arc}
use Rattle.cycles.proofs.gaps.Gaps.of.Goals as goal
use Rattle.cycles.proofs.gaps.Gaps.of.Goals.{then-is_gap, else-is_gap}

pub loop-i-preserved : goal.loop-i-preserved
loop-i-preserved c =
    let n = c.args.size in
    let i = c.loop-i.i in
    let m = mul-le n n largest largest c.requires c.requires in
    let g = λ (arcs : List Arc) (t : Tells n arcs c.args.linked.now). gap-told n arcs c.args.linked.now i t c.loop-i-test.true in
    elim c.if-is_gap.branch [
      | then-is_gap w ↦ record {
        listed = λ arcs t. gap-added n arcs i c.loop-i.len c.loop-i.pairs (c.loop-i.invariant.listed arcs t) c.if-is_gap.len c.if-is_gap.pairs (omega arith) (g arcs t ∙ sym w.if-is_gap.ensures) w.len-is w.pairs-is;
        few = omega arith;
        whole = rw (w.pairs-is, length-set) c.loop-i.invariant.whole;
      }
      | else-is_gap w ↦ record {
        listed = λ arcs t. gap-passed n arcs i c.loop-i.len c.loop-i.pairs (c.loop-i.invariant.listed arcs t) c.if-is_gap.len c.if-is_gap.pairs (g arcs t ∙ sym w.if-is_gap.ensures) w.len-is w.pairs-is;
        few = omega arith;
        whole = cc;
      }
    ]

pub returns : goal.returns
returns c = λ arcs t.
    let e : c.loop-i.i ≡ c.args.size * c.args.size = omega arith in
    c.loop-i.invariant.listed arcs t ∙ rw e (gaps-listed c.args.size arcs)
