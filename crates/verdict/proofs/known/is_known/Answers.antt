use Rattle.std.proofs.Common.{◌≡◌, true, List, ℕ, [], sym, ap, ◌∙◌, arith}
use Rattle.std.proofs.lemmas.List.Elements.{All-get_or}
use Rattle.puzzles.specs.Boards.{decode}
use Rattle.verdict.specs.Verdicts.{known_answers}
use Rattle.verdict.proofs.KnownAnswers.{counted, turn, among-more, among-found, among-none}
use Rattle.verdict.proofs.known.is_known.Goals as goal

pub is_current-requires-clause-answer : goal.is_current-requires-clause-answer
is_current-requires-clause-answer g c =
    let b = g.P.Puzzle.board c.args.puzzle.now in
    let t = turn b.places _ _ c.args.known.now c.places-places.ensures c.count_answers-index-end.ensures c.loop-index.index c.answer_at.result.now c.loop-index-test.true c.answer_at.ensures in
    ap b.answer t.1 ∙ All-get_or (λ (a : List ℕ). b.answer a ≡ true) (known_answers b.places c.args.known.now) c.loop-index.index [] t.0 c.requires.known

pub returns-then-is_current : goal.returns-then-is_current
returns-then-is_current g c = λ xs current solved.
    let b = g.P.Puzzle.board c.args.puzzle.now in
    let t = turn b.places _ _ c.args.known.now c.places-places.ensures c.count_answers-index-end.ensures c.loop-index.index c.answer_at.result.now c.loop-index-test.true c.answer_at.ensures in
    sym (among-found (decode b xs) (known_answers b.places c.args.known.now) c.loop-index.index t.0 (rw (← t.1) (sym (c.is_current.ensures xs current solved) ∙ c.if-is_current.true)))

pub loop-index-preserved : goal.loop-index-preserved
loop-index-preserved g c = λ xs current solved.
    let b = g.P.Puzzle.board c.args.puzzle.now in
    let t = turn b.places _ _ c.args.known.now c.places-places.ensures c.count_answers-index-end.ensures c.loop-index.index c.answer_at.result.now c.loop-index-test.true c.answer_at.ensures in
    among-more (decode b xs) (known_answers b.places c.args.known.now) c.loop-index.index t.0 (c.loop-index.invariant xs current solved) (rw (← t.1) (sym (c.is_current.ensures xs current solved) ∙ c.if-is_current.false))

pub returns : goal.returns
returns g c = λ xs current solved.
    let b = g.P.Puzzle.board c.args.puzzle.now in
    let n = counted b.places _ _ c.args.known.now c.places-places.ensures c.count_answers-index-end.ensures in
    let h = c.loop-index-test.false in
    let l = c.loop-index.auto.index-end in
    sym (among-none (decode b xs) (known_answers b.places c.args.known.now) c.loop-index.index (omega arith) (c.loop-index.invariant xs current solved))
