use Rattle.std.proofs.Common.{◌≡◌, ℕ, ◌+◌, ◌*◌, ◌≤◌, Bool, List, [], ◌∷◌, ◌++◌, length, drop, ◌∙◌, arith}
use Rattle.std.proofs.lemmas.List.{length-append}
use Rattle.puzzles.proofs.Reading.{after-turn, row-of-turn, whole-at-end}
use Rattle.puzzles.proofs.SlackSteps.{fill_step, filled, filled-all}
use Rattle.puzzles.specs.Boards.{rows}
use Rattle.puzzles.specs.Lines.{board_values}
use Rattle.puzzles.proofs.coding.fill_all.Goals as goal

-- what is filled, in the terms of the board
in-board : (n p s t : ℕ) (a : List ℕ) (before now : List Bool) → n ≡ p → s ≡ t → now ≡ board_values s n a ++ drop (n * s) before → now ≡ board_values t p a ++ drop (p * t) before
in-board n p s t a before now e f h = h ∙ rw (e, f)

pub loop-row-preserved : goal.loop-row-preserved
loop-row-preserved g c =
    let b = g.P.Puzzle.board c.args.puzzle.now in
    let r = row-of-turn (rows b) c.loop-row.yielded c.loop-row.row-iterator c.next.new.self c.in-Some.row c.loop-row.invariant.whole c.in-Some.ensures.steps in
    let n : length (c.loop-row.yielded ++ c.in-Some.row ∷ []) ≡ length c.loop-row.yielded + 1 = length-append c.loop-row.yielded (c.in-Some.row ∷ []) in
    record {
      whole = after-turn (rows b) c.loop-row.yielded c.loop-row.row-iterator c.next.new.self c.in-Some.row c.loop-row.invariant.whole c.in-Some.ensures.steps;
      filled_so_far = rw n (fill_step b (g.met.P.Puzzle.lined c.args.puzzle.now) c.args.answer.now c.fill_cells.new.values (omega (arith, c.requires.room, c.fill_cells.auto.values)) (length c.args.answer.now * c.size-size.result) c.loop-row.values (length c.loop-row.yielded) c.literals.result.now c.fill_slack.new.values (rw (c.requires.whole, c.size-size.ensures)) c.loop-row.invariant.filled_so_far r.0 (c.literals.ensures.value ∙ r.1) c.fill_slack.ensures.plain c.fill_slack.ensures.slack);
    }

pub returns : goal.returns
returns g c =
    let b = g.P.Puzzle.board c.args.puzzle.now in
    let start = in-board (length c.args.answer.now) b.places c.size-size.result b.size c.args.answer.now c.args.values.now c.fill_cells.new.values c.requires.whole c.size-size.ensures c.fill_cells.ensures in
    let n : length (rows b) ≤ length c.loop-row.yielded = rw (whole-at-end (rows b) c.loop-row.yielded c.loop-row.row-iterator c.loop-row.invariant.whole c.in-None.ensures.steps.0) (omega arith) in
    ◌∙◌ {b = filled b c.args.answer.now c.fill_cells.new.values (length c.loop-row.yielded)} c.loop-row.invariant.filled_so_far (filled-all b c.args.answer.now c.args.values.now c.fill_cells.new.values (length c.loop-row.yielded) start n)
