use Rattle.std.proofs.Common.{rules, ℕ, ◌+◌, ◌^◌, ◌<◌, List, length, refl, sym, subst, arith}
use Rattle.std.proofs.Math.Nat.{div-le_self}
use Rattle.verdict.specs.Verdicts.{known_answers, Unique}
use Rattle.verdict.proofs.Asking.{asking-none, asking-few, asking-more, another, unique, Reads}
use Rattle.verdict.proofs.Fillings.{answers-all}
use Rattle.solver.proofs.Keeping.{kept-drawn}
use Rattle.verdict.proofs.KnownAnswers.{length-known}
use Rattle.verdict.proofs.KnownStops.{known-right, verdict-none}
use Rattle.verdict.proofs.deciding.verdict.Goals as goal

pub returns-in_err-check_known-clause-enumerates : goal.returns-in_err-check_known-clause-enumerates
returns-in_err-check_known-clause-enumerates g c = answers-all _ (g.met.P.Puzzle.lined c.args.puzzle.now)

pub returns-in_err-start-clause-enumerates : goal.returns-in_err-start-clause-enumerates
returns-in_err-start-clause-enumerates g c = answers-all _ (g.met.P.Puzzle.lined c.args.puzzle.now)

pub loop-drawn-init : goal.loop-drawn-init
loop-drawn-init g c =
    let s = c.in_ok-start.ensures in
    (asking-none _ _ _ s.starts.1, record { kind = refl; stop = refl }, s.sound refl, refl)

pub overflow_add-draws : goal.overflow_add-draws
overflow_add-draws g c =
    let b = g.P.Puzzle.board c.args.puzzle.now in
    let (a, k, sound, same) = c.loop-drawn.invariant in
    let few = asking-few b (g.met.P.Puzzle.lined c.args.puzzle.now) (known_answers b.places c.args.known.now) _ _ a (g.met.S.Solver.lawful c.loop-drawn.solver sound) in
    let n = length-known b.places c.args.known.now in
    let m = div-le_self (length c.args.known.now) b.places in
    let l : length c.args.known.now < 2 ^ 63 = search rules in
    omega arith

pub returns-in-Exhausted-clause-decides : goal.returns-in-Exhausted-clause-decides
returns-in-Exhausted-clause-decides g c =
    let (a, k, sound, same) = c.loop-drawn.invariant in
    let n = c.in_ok-drawn.ensures in
    let b = g.P.Puzzle.board c.args.puzzle.now in
    let bytes = c.args.known.now in
    let ks = known_answers b.places bytes in
    let before = c.args.answer.now in
    let lined = g.met.P.Puzzle.lined c.args.puzzle.now in
    let known = c.in_ok-check_known.ensures.0 in
    let right = (known-right b bytes (length before) known).1 in
    let lawful = g.met.S.Solver.lawful c.loop-drawn.solver sound in
    (verdict-none b bytes (length before) (g.S.Solver.means c.args.solver.now) known c.in_ok-start.ensures.starts.0, subst (λ (ys : List ℕ). Unique b ks before ys (g.S.Solver.means c.next.new.self) (c.loop-drawn.draws + 1)) (sym same) (unique b lined ks _ _ a lawful before _ right n.fixed _ c.in-Exhausted.is (n.draws sound)))

pub returns-in-Exhausted-clause-enumerates : goal.returns-in-Exhausted-clause-enumerates
returns-in-Exhausted-clause-enumerates g c = answers-all _ (g.met.P.Puzzle.lined c.args.puzzle.now)

pub is_known-requires-clause-known : goal.is_known-requires-clause-known
is_known-requires-clause-known g c = (known-right (g.P.Puzzle.board c.args.puzzle.now) c.args.known.now (length c.args.answer.now) c.in_ok-check_known.ensures.0).1.sure

pub returns-then-not-is_known-clause-decides : goal.returns-then-not-is_known-clause-decides
returns-then-not-is_known-clause-decides g c =
    let (a, k, sound, same) = c.loop-drawn.invariant in
    let n = c.in_ok-drawn.ensures in
    let b = g.P.Puzzle.board c.args.puzzle.now in
    let bytes = c.args.known.now in
    let ks = known_answers b.places bytes in
    let before = c.args.answer.now in
    let lined = g.met.P.Puzzle.lined c.args.puzzle.now in
    let known = c.in_ok-check_known.ensures.0 in
    let right = (known-right b bytes (length before) known).1 in
    let lawful = g.met.S.Solver.lawful c.loop-drawn.solver sound in
    (verdict-none b bytes (length before) (g.S.Solver.means c.args.solver.now) known c.in_ok-start.ensures.starts.0, another b lined ks _ _ a lawful _ n.fixed _ c.in_default.is (n.draws sound) _ c.is_known.ensures before _ right c.if-not-is_known.true (subst (λ (xs : List ℕ). Reads b (g.S.Solver.means c.next.new.self) xs c.read_answer.new.answer) same c.read_answer.ensures))

pub returns-then-not-is_known-clause-enumerates : goal.returns-then-not-is_known-clause-enumerates
returns-then-not-is_known-clause-enumerates g c = answers-all _ (g.met.P.Puzzle.lined c.args.puzzle.now)

pub loop-drawn-smaller : goal.loop-drawn-smaller
loop-drawn-smaller g c =
    let (a, k, sound, same) = c.loop-drawn.invariant in
    let few = asking-few _ (g.met.P.Puzzle.lined c.args.puzzle.now) _ _ _ a (g.met.S.Solver.lawful c.loop-drawn.solver sound) in
    omega arith

pub loop-drawn-preserved : goal.loop-drawn-preserved
loop-drawn-preserved g c =
    let (a, k, sound, same) = c.loop-drawn.invariant in
    let n = c.in_ok-drawn.ensures in
    let lawful = g.met.S.Solver.lawful c.loop-drawn.solver sound in
    (asking-more _ (g.met.P.Puzzle.lined c.args.puzzle.now) _ _ _ a lawful _ n.fixed _ c.in_default.is (n.draws sound) _ c.is_known.ensures c.if-not-is_known.false, kept-drawn _ _ _ k n.fixed, n.still sound, same)
