-- A solver of another kind does not fit.
use Rattle.std.proofs.Common.{◌≡◌, false, Some, refl}
use Rattle.rows.specs.declared.stops.Stop.TheVariants.{Joint}
use Rattle.rows.specs.Stops.{here}
use Rattle.solver.specs.Meaning.{Meaning}
use Rattle.puzzles.specs.Boards.{Board}
use Rattle.verdict.specs.Counting.{is_cover, start_stop}

pub misfit : (b : Board) (m : Meaning) → is_cover m.kind ≡ false → start_stop b m ≡ Some (here Joint)
misfit b m e = rw e refl
