use Rattle.std.proofs.Common.{length, Some, sym, refl, ap, ◌∙◌, arith}
use Rattle.puzzles.proofs.Codes.{decode-done, decode-wrong}
use Rattle.puzzles.proofs.Law.{lined-are-faithful}
use Rattle.puzzles.proofs.coding.decode.Goals as goal

pub returns-then-is_some : goal.returns-then-is_some
returns-then-is_some g c =
    let p = c.places-places.ensures in
    let e = decode-wrong (g.P.Puzzle.board c.args.puzzle.now) c.args.values.now (length c.args.answer.now) c.in_ok-first_false.field-0 (omega arith) (sym c.first_false.ensures.value ∙ c.in_ok-first_false.was) (sym c.if-is_some.ensures) in
    (e ∙ ap Some (sym c.here-then-is_some.ensures), refl)

pub returns : goal.returns
returns g c =
    let p = c.places-places.ensures in
    decode-done (g.P.Puzzle.board c.args.puzzle.now) (lined-are-faithful (g.P.Puzzle.board c.args.puzzle.now) (g.met.P.Puzzle.lined c.args.puzzle.now)) c.args.values.now c.args.answer.now c.read_all.new.answer c.in_ok-first_false.field-0 (omega arith) (sym c.first_false.ensures.value ∙ c.in_ok-first_false.was) (sym c.if-is_some.ensures) c.read_all.ensures
