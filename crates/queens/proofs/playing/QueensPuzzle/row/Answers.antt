use Rattle.std.proofs.Common.{◌-◌, ◌*◌, sym, refl, ◌∙◌, arith}
use Rattle.std.proofs.lemmas.Nat.{mul-le}
use Rattle.puzzles.specs.Givens.{fits}
use Rattle.puzzles.proofs.Made.{makeable-size}
use Rattle.puzzles.proofs.Runs.{run-made}
use Rattle.queens.specs.Queens.{largest, smallest}
use Rattle.queens.proofs.Rows.{queens-column, queens-falling, queens-given, queens-place, queens-rising}
use Rattle.queens.proofs.playing.QueensPuzzle.row.Goals as goal

pub returns-then-index-n : goal.returns-then-index-n
returns-then-index-n c =
    let q = c.args.self.now in
    let h = (makeable-size smallest largest (fits q.size q.size) q.size q.givens.now q.made).1 in
    let m = mul-le c.args.index q.size largest largest (omega arith) h in
    run-made (c.args.index * q.size) 1 q.size _ c.run.ensures (omega arith) (omega arith) (omega arith) ∙ sym (queens-place q.size q.givens.now c.args.index c.if-index-n.true)

pub returns-then-index-n-2 : goal.returns-then-index-n-2
returns-then-index-n-2 c =
    let q = c.args.self.now in
    let h = (makeable-size smallest largest (fits q.size q.size) q.size q.givens.now q.made).1 in
    run-made (c.args.index - q.size) q.size q.size _ c.run-then-index-n-2.ensures (omega arith) (omega arith) (omega arith) ∙ sym (queens-column q.size q.givens.now c.args.index c.if-index-n.false c.if-index-n-2.true)

pub returns-then-i-ways : goal.returns-then-i-ways
returns-then-i-ways c =
    let q = c.args.self.now in
    c.falling_row.ensures ∙ rw c.side-side.ensures (sym (queens-falling q.size q.givens.now c.args.index (c.args.index - 2 * q.size) c.if-index-n-2.false refl (omega arith)))

pub returns-then-i-ways-2 : goal.returns-then-i-ways-2
returns-then-i-ways-2 c =
    let q = c.args.self.now in
    c.rising_row.ensures ∙ rw c.side-side.ensures (sym (queens-rising q.size q.givens.now c.args.index (c.args.index - 2 * q.size - c.diagonals-ways.result) c.diagonals-ways.result c.if-index-n-2.false (omega arith) (omega arith) (omega arith)))

pub returns : goal.returns
returns c =
    let q = c.args.self.now in
    c.given_row.ensures ∙ sym (queens-given q.size q.givens.now c.args.index (c.args.index - 2 * q.size) c.diagonals-ways.result q.made c.if-index-n-2.false refl (omega arith) c.if-i-ways-2.false)
