use Rattle.std.proofs.Common.{◌≡◌, length, take}
use Rattle.std.specs.List.{zip}
use Rattle.std.specs.Vec.{vec_items}
use Rattle.solver.specs.Calls.{Kept}
use Rattle.solver.specs.Laws.{Fresh}
use Rattle.history.specs.Performing.{Performed}
use Rattle.history.proofs.Promising.{So}
use Rattle.history.proofs.replaying.replay.Given as goal

-- the calls so far have their answers, and what is promised of them holds
abbrev pub invariant-loop-call : goal.invariant-loop-call
invariant-loop-call g l =
    let sound = g.S.Solver.sound l.initial.solver in
    let first = g.S.Solver.means l.initial.solver in
    Kept first (g.S.Solver.means l.solver)
    × (sound → g.S.Solver.sound l.solver)
    × (length (vec_items l.answers) ≡ l.call-index)
    × (sound → Performed first (take l.call-index l.calls) (vec_items l.answers) (g.S.Solver.means l.solver))
    × (sound → Fresh first → So first (zip (take l.call-index l.calls) (vec_items l.answers)) (g.S.Solver.means l.solver))
