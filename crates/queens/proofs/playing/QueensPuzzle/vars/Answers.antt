use Rattle.std.proofs.Common.{arith}
use Rattle.queens.proofs.Rows.{queens-vars}
use Rattle.queens.proofs.playing.QueensPuzzle.vars.Goals as goal

pub returns : goal.returns
returns c = omega (arith, queens-vars c.args.self.now.size c.args.self.now.givens.now)
