use Rattle.std.proofs.Common.{sym, List, ℕ, subst}
use Rattle.solver.specs.Laws.{Fresh}
use Rattle.reductions.specs.Joints.{Joined, reduced}
use Rattle.reductions.proofs.Calls
use Rattle.reductions.proofs.reduced.Reduced.new.Goals as goal

pub returns-clause-fresh : goal.returns-clause-fresh
returns-clause-fresh g c = λ s f.
    let t = g.T.Translation.rule c.args.rule in
    let m = g.S.Solver.means c.args.below in
    ((s, subst (λ (b : List ℕ). Joined t 0 0 b m) (sym c.empty.ensures) (Calls.made t m f)), subst (λ (b : List ℕ). Fresh (reduced t 0 b m)) (sym c.empty.ensures) (Calls.made-fresh t m f))
