use Rattle.std.proofs.Common.{arith}
use Rattle.std.proofs.lemmas.Bool.Decides.{nat_tests}
use Rattle.latin.proofs.Checked.{square_checked}
use Rattle.latin.proofs.standing.is_square.Goals as goal

pub returns-then-once_in_rows : goal.returns-then-once_in_rows
returns-then-once_in_rows c =
    let e = square_checked c.args.size c.args.answer.now c.requires in
    grind (arith, nat_tests)
