use Rattle.std.proofs.Common.{◌≤◌, length, sym, ◌∙◌, arith}
use Rattle.rows.specs.Kinds.{longest}
use Rattle.rows.proofs.Tallies.{bill-none}
use Rattle.puzzles.proofs.Reading.{after-turn, row-of-turn, tally-fits, tally-step}
use Rattle.puzzles.specs.Boards.{rows}
use Rattle.puzzles.proofs.calls.bill.Goals as goal

pub loop-row-init : goal.loop-row-init
loop-row-init g c = record { whole = cc; tallied = c.empty-bill.ensures ∙ sym bill-none }

pub overflow_add-bill : goal.overflow_add-bill
overflow_add-bill g c =
    let rs = rows (g.P.Puzzle.board c.args.puzzle.now) in
    let t = row-of-turn rs c.loop-row.yielded c.loop-row.row-iterator c.next.new.self c.in-Some.row c.loop-row.invariant.whole c.in-Some.ensures.steps in
    let l : length c.literals.result.now ≤ longest = rw c.literals.ensures.value c.literals.ensures.short in
    omega (arith, tally-fits c.loop-row.yielded (length c.literals.result.now) c.loop-row.bill.counts l c.loop-row.invariant.tallied)

pub loop-row-preserved : goal.loop-row-preserved
loop-row-preserved g c = record {
  whole = after-turn (rows (g.P.Puzzle.board c.args.puzzle.now)) c.loop-row.yielded c.loop-row.row-iterator c.next.new.self c.in-Some.row c.loop-row.invariant.whole c.in-Some.ensures.steps;
  tallied = rw c.literals.ensures.value (tally-step c.loop-row.yielded c.loop-row.bill.counts c.in-Some.row c.literals.ensures.short c.loop-row.invariant.tallied);
}
