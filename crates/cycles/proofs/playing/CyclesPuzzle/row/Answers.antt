use Rattle.std.proofs.Common.{◌-◌, ◌*◌, sym, refl, ◌∙◌, arith}
use Rattle.std.proofs.lemmas.Nat.{mul-le}
use Rattle.puzzles.proofs.Made.{makeable-size}
use Rattle.puzzles.proofs.Runs.{run-made}
use Rattle.cycles.specs.Arcs.{joins}
use Rattle.cycles.specs.Cycles.{largest, smallest}
use Rattle.cycles.proofs.Rows.{cycles-gap, cycles-place, cycles-start, cycles-vertex}
use Rattle.cycles.proofs.playing.CyclesPuzzle.row.Goals as goal

pub returns-then-index-n : goal.returns-then-index-n
returns-then-index-n c =
    let p = c.args.self.now in
    let h = (makeable-size smallest largest (joins p.size) p.size p.arcs.now p.made).1 in
    let m = mul-le c.args.index p.size largest largest (omega arith) h in
    run-made (c.args.index * p.size) 1 p.size _ c.run.ensures (omega arith) (omega arith) (omega arith) ∙ sym (cycles-place p.size p.arcs.now c.args.index c.if-index-n.true)

pub returns-then-index-n-2 : goal.returns-then-index-n-2
returns-then-index-n-2 c =
    let p = c.args.self.now in
    let h = (makeable-size smallest largest (joins p.size) p.size p.arcs.now p.made).1 in
    run-made (c.args.index - p.size) p.size p.size _ c.run-then-index-n-2.ensures (omega arith) (omega arith) (omega arith) ∙ sym (cycles-vertex p.size p.arcs.now c.args.index c.if-index-n.false c.if-index-n-2.true)

pub returns-then-index-n-3 : goal.returns-then-index-n-3
returns-then-index-n-3 c =
    let p = c.args.self.now in
    run-made 0 1 1 _ c.run-then-index-n-3.ensures (omega arith) (omega arith) (omega arith) ∙ sym (cycles-start p.size p.arcs.now c.args.index c.if-index-n-3.true)

pub returns : goal.returns
returns c =
    let p = c.args.self.now in
    let h = makeable-size smallest largest (joins p.size) p.size p.arcs.now p.made in
    c.gap_row.ensures ∙ sym (cycles-gap p.size p.arcs.now c.args.index (c.args.index - 2 * p.size - 1) (omega arith) (omega arith) refl)
