use Rattle.std.proofs.Common.{sym, ap, subst}
use Rattle.reductions.specs.Joints.{Joined, reduced}
use Rattle.reductions.proofs.Calls.{joined-rewound}
use Rattle.reductions.proofs.reduced.ReducedSolver.rewind.Goals as goal

pub returns : goal.returns
returns g c =
    let s = c.args.self.now in
    let t = g.T.Translation.rule s.rule in
    let e = c.rewind.ensures.after in
    record {
      after = ap (reduced t s.vars s.owed.counts) e;
      still = λ p. (c.rewind.ensures.still p.0, subst (Joined t s.vars s.helper s.owed.counts) (sym e) (joined-rewound t s.vars s.helper s.owed.counts _ p.1));
    }
