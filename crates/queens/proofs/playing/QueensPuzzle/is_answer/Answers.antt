use Rattle.std.proofs.Common.{arith}
use Rattle.std.proofs.lemmas.Bool.Decides.{nat_tests}
use Rattle.queens.proofs.Checked.{queens_checked}
use Rattle.queens.proofs.playing.QueensPuzzle.is_answer.Goals as goal

pub returns-then-all_apart : goal.returns-then-all_apart
returns-then-all_apart c =
    let q = c.args.self.now in
    let e = queens_checked q.size q.givens.now c.args.answer.now in
    grind (arith, nat_tests)
