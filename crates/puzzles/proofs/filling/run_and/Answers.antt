use Rattle.std.proofs.Common.{◌≡◌, ◌++◌, [], ◌∷◌, ◌*◌, length, Some, true, sym, ap, ◌∙◌, arith, rules}
use Rattle.puzzles.specs.Filling.{run_fits}
use Rattle.puzzles.proofs.Runs.{length_run, run-and-made}
use Rattle.puzzles.proofs.filling.run_and.Goals as goal

pub push_variable-requires-clause-room : goal.push_variable-requires-clause-room
push_variable-requires-clause-room c =
    let l = ap length c.fill_run.ensures ∙ length_run c.args.start c.args.step c.args.count in
    omega (arith, l)

pub returns : goal.returns
returns c =
    let v = c.args.last in
    let fits : run_fits c.args.start c.args.step c.args.count ≡ true = search rules in
    let made = run-and-made c.args.start c.args.step c.args.count v fits (omega arith) (omega arith) in
    ap Some (c.push_variable.ensures ∙ ap (λ row. row ++ (2 * v) ∷ []) c.fill_run.ensures) ∙ sym made
