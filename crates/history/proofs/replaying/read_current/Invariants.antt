use Rattle.std.proofs.Common.{◌≡◌, ◌≤◌, Bool, List, Some, length, take}
use Rattle.std.specs.Vec.{vec_items}
use Rattle.history.proofs.replaying.read_current.Given as goal

-- the first values are read
abbrev pub invariant-loop-i : goal.invariant-loop-i
invariant-loop-i g l = (xs : List Bool) → (g.S.Solver.means l.solver).current ≡ Some xs → (l.i ≤ length xs) × (vec_items l.values ≡ take l.i xs)
