use Rattle.std.proofs.Common.{◌<◌, get_or, refl, ◌∙◌, arith}
use Rattle.std.proofs.lemmas.List.{length-take, length-take-le}
use Rattle.puzzles.specs.Boards.{decode}
use Rattle.puzzles.proofs.Law.{decoded-fills}
use Rattle.verdict.proofs.Current.{value-below, written-more, same-values}
use Rattle.verdict.proofs.reading.read_answer.Goals as goal

pub loop-place-preserved : goal.loop-place-preserved
loop-place-preserved g c = λ xs current solved.
    let b = g.P.Puzzle.board c.args.puzzle.now in
    let lined = g.met.P.Puzzle.lined c.args.puzzle.now in
    let p = c.loop-place.place in
    let h : p < b.places = omega (arith, c.loop-place-test.true, c.places-places.ensures, length-take c.places-places.result c.args.answer.now) in
    let v = get_or (decode b xs) p 0 in
    let value = c.read_value.ensures xs v current (rw c.size-size.ensures (value-below b lined xs solved p h)) (λ w l. rw c.size-size.ensures (decoded-fills b lined xs solved p w h (rw (← c.size-size.ensures) l))) in
    written-more c.loop-place.value-items (decode b xs) p c.read_value.result (rw c.loop-place.auto.value-items c.loop-place-test.true) (c.loop-place.invariant xs current solved) value

pub returns : goal.returns
returns g c = λ xs current solved.
    let b = g.P.Puzzle.board c.args.puzzle.now in
    let n = c.places-places.result in
    let l = length-take-le n c.args.answer.now (omega (arith, c.requires.room, c.places-places.ensures)) in
    let all = same-values b (g.met.P.Puzzle.lined c.args.puzzle.now) xs solved c.loop-place.value-items n (c.loop-place.auto.value-items ∙ l) c.places-places.ensures (λ p h. c.loop-place.invariant xs current solved p (let k = c.loop-place-test.false in omega arith)) in
    rw (all, ← c.places-places.ensures) refl
