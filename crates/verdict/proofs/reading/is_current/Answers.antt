use Rattle.std.proofs.Common.{sym, ◌∙◌, arith}
use Rattle.std.proofs.lemmas.Bool.{eqb-true}
use Rattle.puzzles.specs.Boards.{decode}
use Rattle.verdict.proofs.Current.{differs-at, same-value, same-answer, values-more}
use Rattle.verdict.proofs.reading.is_current.Goals as goal

pub returns-then-not-is_true : goal.returns-then-not-is_true
returns-then-not-is_true g c = λ xs current solved.
    let b = g.P.Puzzle.board c.args.puzzle.now in
    let s = same-value b (g.met.P.Puzzle.lined c.args.puzzle.now) xs solved c.args.answer.now c.loop-place.place c.size-size.result c.is_true.result c.requires.answer c.loop-place-test.true c.size-size.ensures (c.is_true.ensures xs current) in
    sym (differs-at (decode b xs) c.args.answer.now c.loop-place.place (sym s ∙ c.if-not-is_true.true))

pub loop-place-preserved : goal.loop-place-preserved
loop-place-preserved g c = λ xs current solved.
    let b = g.P.Puzzle.board c.args.puzzle.now in
    let s = same-value b (g.met.P.Puzzle.lined c.args.puzzle.now) xs solved c.args.answer.now c.loop-place.place c.size-size.result c.is_true.result c.requires.answer c.loop-place-test.true c.size-size.ensures (c.is_true.ensures xs current) in
    values-more (decode b xs) c.args.answer.now c.loop-place.place (c.loop-place.invariant xs current solved) (eqb-true _ _ (sym s ∙ c.if-not-is_true.false))

pub returns : goal.returns
returns g c = λ xs current solved.
    let b = g.P.Puzzle.board c.args.puzzle.now in
    let h = c.loop-place-test.false in
    let l = c.loop-place.auto.place-end in
    sym (same-answer b (g.met.P.Puzzle.lined c.args.puzzle.now) xs solved c.args.answer.now c.loop-place.place c.requires.answer (omega arith) (c.loop-place.invariant xs current solved))
