use Rattle.std.proofs.Common.{sym, ◌∙◌}
use Rattle.puzzles.proofs.Codes.{encode-done}
use Rattle.puzzles.proofs.Law.{lined-are-faithful}
use Rattle.puzzles.proofs.coding.encode.Goals as goal

pub returns : goal.returns
returns g c = encode-done (g.P.Puzzle.board c.args.puzzle.now) (lined-are-faithful (g.P.Puzzle.board c.args.puzzle.now) (g.met.P.Puzzle.lined c.args.puzzle.now)) c.args.answer.now c.args.values.now c.fill_all.new.values c.in_ok-check_fill.ensures.0 (sym c.is_answer.ensures ∙ c.if-not-is_answer.false) c.fill_all.ensures
