use Rattle.std.proofs.Common.{arith}
use Rattle.queens.proofs.Rows.{queens-length}
use Rattle.queens.proofs.playing.QueensPuzzle.rows.Goals as goal

pub returns : goal.returns
returns c = omega (arith, queens-length c.args.self.now.size c.args.self.now.givens.now)
