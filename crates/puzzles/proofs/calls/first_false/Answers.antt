use Rattle.std.proofs.Common.{◌≡◌, ℕ, true, false, map, ◌∙◌, arith}
use Rattle.std.proofs.lemmas.List.{map-append}
use Rattle.rows.specs.Truth.{valuation, first_false, holds}
use Rattle.rows.specs.declared.kinds.Kind.TheVariants.{Cover}
use Rattle.puzzles.proofs.Failing.{false-found, false-turn, judged-board}
use Rattle.puzzles.proofs.Reading.{after-turn, row-of-turn}
use Rattle.puzzles.specs.Boards.{rows}
use Rattle.puzzles.proofs.calls.first_false.Goals as goal

pub returns-in_err-judge-clause-value : goal.returns-in_err-judge-clause-value
returns-in_err-judge-clause-value g c =
    let b = g.P.Puzzle.board c.args.puzzle.now in
    let r = row-of-turn (rows b) (map (λ t. t.1) c.loop-i.yielded) c.loop-i.i-iterator.iter c.next.new.self.iter c.in-Some.row c.loop-i.invariant.whole c.in-Some.ensures.steps.0 in
    let j = judged-board b (g.met.P.Puzzle.lined c.args.puzzle.now) c.args.values.now (c.if-values-vars.false ∙ c.vars.ensures) _ c.in-Some.row r.0 r.1 c.literals.ensures.short in
    let v = c.literals.ensures.value in
    let e = c.in_err-judge.was in
    let f = c.judge.ensures in
    let z : ◌≡◌ {A = ℕ} 0 1 = cc in
    absurd (omega arith)

pub returns-then-not-branch-clause-value : goal.returns-then-not-branch-clause-value
returns-then-not-branch-clause-value g c =
    let b = g.P.Puzzle.board c.args.puzzle.now in
    let n = c.if-values-vars.false ∙ c.vars.ensures in
    let r = row-of-turn (rows b) (map (λ t. t.1) c.loop-i.yielded) c.loop-i.i-iterator.iter c.next.new.self.iter c.in-Some.row c.loop-i.invariant.whole c.in-Some.ensures.steps.0 in
    let j = judged-board b (g.met.P.Puzzle.lined c.args.puzzle.now) c.args.values.now n _ c.in-Some.row r.0 r.1 c.literals.ensures.short in
    let e = c.in_ok-judge.was in
    let t : holds Cover (valuation c.args.values.now) c.in-Some.row ≡ false = cc in
    false-found b c.args.values.now c.loop-i.i-iterator.count c.in-Some.i c.in-Some.row c.loop-i.i-iterator.iter c.next.new.self.iter n c.loop-i.invariant.passed c.in-Some.ensures.steps.0 c.in-Some.ensures.steps.1 t

pub loop-i-preserved : goal.loop-i-preserved
loop-i-preserved g c =
    let b = g.P.Puzzle.board c.args.puzzle.now in
    let so_far = map (λ t. t.1) c.loop-i.yielded in
    let r = row-of-turn (rows b) so_far c.loop-i.i-iterator.iter c.next.new.self.iter c.in-Some.row c.loop-i.invariant.whole c.in-Some.ensures.steps.0 in
    let j = judged-board b (g.met.P.Puzzle.lined c.args.puzzle.now) c.args.values.now (c.if-values-vars.false ∙ c.vars.ensures) _ c.in-Some.row r.0 r.1 c.literals.ensures.short in
    let e = c.in_ok-judge.was in
    let v = valuation c.args.values.now in
    let t : holds Cover v c.in-Some.row ≡ true = cc in
    record {
      whole = rw map-append (after-turn (rows b) so_far c.loop-i.i-iterator.iter c.next.new.self.iter c.in-Some.row c.loop-i.invariant.whole c.in-Some.ensures.steps.0);
      passed = ◌∙◌ {a = first_false Cover v 0 (rows b)} c.loop-i.invariant.passed (false-turn v c.loop-i.i-iterator.count c.next.new.self.count c.in-Some.row c.loop-i.i-iterator.iter c.next.new.self.iter c.in-Some.ensures.steps.0 c.in-Some.ensures.steps.2 t);
    }
