use Rattle.std.proofs.Common.{◌+◌, ◌-◌, ◌*◌, ◌/◌, ◌%◌, sym, refl, ◌∙◌, arith}
use Rattle.std.proofs.lemmas.Nat.{mul-le}
use Rattle.puzzles.specs.Givens.{fits}
use Rattle.puzzles.proofs.Made.{makeable-size}
use Rattle.puzzles.proofs.Runs.{run-made}
use Rattle.latin.specs.Latin.{largest, smallest}
use Rattle.latin.proofs.Rows.{few-cells, row-start, latin-column, latin-given, latin-place, latin-row}
use Rattle.latin.proofs.playing.LatinPuzzle.row.Goals as goal

pub returns-then-index-cells : goal.returns-then-index-cells
returns-then-index-cells c =
    let l = c.args.self.now in
    let h = makeable-size smallest largest (fits l.size (l.size * l.size)) l.size l.givens.now l.made in
    let k = few-cells l.size h.1 in
    let m = mul-le c.args.index l.size (largest * largest) largest (omega arith) h.1 in
    run-made (c.args.index * l.size) 1 l.size _ c.run.ensures (omega arith) (omega arith) (omega arith) ∙ sym (latin-place l.size l.givens.now h.0 c.args.index c.if-index-cells.true)

pub returns-then-index-cells-2 : goal.returns-then-index-cells-2
returns-then-index-cells-2 c =
    let l = c.args.self.now in
    let n = l.size in
    let h = makeable-size smallest largest (fits n (n * n)) n l.givens.now l.made in
    let i = c.args.index - n * n in
    let k = few-cells n h.1 in
    let m = row-start n i h.0 h.1 (omega arith) in
    run-made (i / n * (n * n) + i % n) n n _ c.run-then-index-cells-2.ensures (omega arith) m (omega arith) ∙ sym (latin-row n l.givens.now h.0 c.args.index i c.if-index-cells.false refl (omega arith))

pub returns-then-index-cells-3 : goal.returns-then-index-cells-3
returns-then-index-cells-3 c =
    let l = c.args.self.now in
    let n = l.size in
    let h = makeable-size smallest largest (fits n (n * n)) n l.givens.now l.made in
    let k = few-cells n h.1 in
    run-made (c.args.index - 2 * (n * n)) (n * n) n _ c.run-then-index-cells-3.ensures (omega arith) (omega arith) (omega arith) ∙ sym (latin-column n l.givens.now h.0 c.args.index (c.args.index - 2 * (n * n)) c.if-index-cells-2.false refl (omega arith))

pub returns : goal.returns
returns c =
    let l = c.args.self.now in
    let h = makeable-size smallest largest (fits l.size (l.size * l.size)) l.size l.givens.now l.made in
    c.given_row.ensures ∙ sym (latin-given l.size l.givens.now h.0 c.args.index (c.args.index - 3 * (l.size * l.size)) l.made (omega arith) refl)
