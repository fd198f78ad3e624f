use Rattle.std.proofs.Common.{◌≡◌, [], take, drop}
use Rattle.verdict.specs.Verdicts.{answers_stop, known_answers}
use Rattle.verdict.proofs.known.check_answers.Given as goal

-- the answers so far are not refused
abbrev pub invariant-loop-index : goal.invariant-loop-index
invariant-loop-index g l =
    let b = g.P.Puzzle.board l.puzzle in
    let ks = known_answers b.places l.known in
    answers_stop b [] ks ≡ answers_stop b (take l.index ks) (drop l.index ks)
