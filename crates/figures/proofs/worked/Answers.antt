use Rattle.figures.proofs.Figures.{by-computing}
use Rattle.figures.proofs.worked.Goals as goal

pub returns : goal.returns
returns c = by-computing
