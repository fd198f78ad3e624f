use Rattle.puzzles.proofs.Law.{lined-are-faithful}
use Rattle.puzzles.proofs.boards.faithful.Goals as goal

pub returns : goal.returns
returns g c = lined-are-faithful (g.P.Puzzle.board c.args.puzzle.now) (g.met.P.Puzzle.lined c.args.puzzle.now)
