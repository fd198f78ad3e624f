use Rattle.history.proofs.asking.verdict_after.Goals as goal

pub returns-clause-asks : goal.returns-clause-asks
returns-clause-asks g c = (g.S.Solver.means c.replay.new.solver, c.in_ok-answers.ensures.replayed, c.verdict-verdict.ensures.decides)
