use Rattle.std.proofs.Common.{refl}
use Rattle.cycles.proofs.standing.goes_on.Goals as goal

pub returns : goal.returns
returns c = refl
