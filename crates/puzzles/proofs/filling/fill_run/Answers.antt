use Rattle.std.proofs.Common.{◌++◌, [], ◌∷◌, ◌*◌, ◌+◌, length, ap, ◌∙◌}
use Rattle.puzzles.proofs.Runs.{length_run, run-room, run-longer}
use Rattle.puzzles.proofs.filling.fill_run.Goals as goal

pub push_variable-requires-clause-room : goal.push_variable-requires-clause-room
push_variable-requires-clause-room c =
    let s = c.args.start in let d = c.args.step in
    let room = run-room s d c.args.count c.loop-k.k c.requires.fits c.loop-k-test.true in
    rw (ap length c.loop-k.invariant ∙ length_run s d c.loop-k.k) room.0

pub loop-k-preserved : goal.loop-k-preserved
loop-k-preserved c =
    c.push_variable.ensures ∙ (ap (λ row. row ++ (2 * (c.args.start + c.loop-k.k * c.args.step)) ∷ []) c.loop-k.invariant ∙ run-longer c.args.start c.args.step c.loop-k.k)
