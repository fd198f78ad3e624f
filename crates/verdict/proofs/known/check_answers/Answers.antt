use Rattle.std.proofs.Common.{Some, sym, ap, ◌∙◌, arith}
use Rattle.puzzles.proofs.Law.{parts}
use Rattle.verdict.specs.Verdicts.{known_answers}
use Rattle.verdict.proofs.KnownAnswers.{counted, turn}
use Rattle.verdict.proofs.KnownStops.{stop-wrong, stop-twice, stop-later, stop-none}
use Rattle.verdict.proofs.known.check_answers.Goals as goal

pub returns-then-not-is_answer : goal.returns-then-not-is_answer
returns-then-not-is_answer g c =
    let b = g.P.Puzzle.board c.args.puzzle.now in
    let t = turn b.places _ _ c.args.known.now c.places-places.ensures c.count_answers-index-end.ensures c.loop-index.index c.answer_at-answer.result.now c.loop-index-test.true c.answer_at-answer.ensures in
    (c.loop-index.invariant ∙ (stop-wrong b _ _ _ t (sym c.is_answer.ensures ∙ c.if-not-is_answer.true) ∙ ap Some (sym c.here.ensures)), tt)

pub returns-then-is_among : goal.returns-then-is_among
returns-then-is_among g c =
    let b = g.P.Puzzle.board c.args.puzzle.now in
    let a = c.answer_at-answer.result.now in
    let t = turn b.places _ _ c.args.known.now c.places-places.ensures c.count_answers-index-end.ensures c.loop-index.index a c.loop-index-test.true c.answer_at-answer.ensures in
    let right = sym c.is_answer.ensures ∙ c.if-not-is_answer.false in
    let l = (parts b (g.met.P.Puzzle.lined c.args.puzzle.now) a right).0 in
    (c.loop-index.invariant ∙ (stop-twice b _ _ _ t right (rw (← l) (sym c.is_among.ensures ∙ c.if-is_among.true)) ∙ ap Some (sym c.here-then-is_among.ensures)), tt)

pub loop-index-preserved : goal.loop-index-preserved
loop-index-preserved g c =
    let b = g.P.Puzzle.board c.args.puzzle.now in
    let a = c.answer_at-answer.result.now in
    let t = turn b.places _ _ c.args.known.now c.places-places.ensures c.count_answers-index-end.ensures c.loop-index.index a c.loop-index-test.true c.answer_at-answer.ensures in
    let right = sym c.is_answer.ensures ∙ c.if-not-is_answer.false in
    let l = (parts b (g.met.P.Puzzle.lined c.args.puzzle.now) a right).0 in
    c.loop-index.invariant ∙ stop-later b _ _ _ t right (rw (← l) (sym c.is_among.ensures ∙ c.if-is_among.false))

pub returns : goal.returns
returns g c =
    let b = g.P.Puzzle.board c.args.puzzle.now in
    let n = counted b.places _ _ c.args.known.now c.places-places.ensures c.count_answers-index-end.ensures in
    let h = c.loop-index-test.false in
    (c.loop-index.invariant ∙ stop-none b (known_answers b.places c.args.known.now) c.loop-index.index (omega arith), tt)
