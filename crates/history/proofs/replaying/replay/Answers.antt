use Rattle.std.proofs.Common.{◌≡◌, ℕ, ◌+◌, ap, refl, length, ◌∙◌, arith}
use Rattle.std.proofs.lemmas.List.{length_push}
use Rattle.solver.proofs.Keeping.{kept-twice}
use Rattle.history.proofs.Promising.{complete, performed-all, performed-call, performed-none, so-call, so-none}
use Rattle.history.proofs.replaying.replay.Goals as goal

pub loop-call-init : goal.loop-call-init
loop-call-init g c = (record { kind = refl; stop = refl }, λ s. s, ap length c.new-answers.ensures.items, λ s. performed-none _ _ c.new-answers.ensures.items, λ s f. so-none _ f (g.met.S.Solver.lawful _ s))

pub returns-in_err-perform-clause-kept : goal.returns-in_err-perform-clause-kept
returns-in_err-perform-clause-kept g c = kept-twice _ _ _ c.loop-call.invariant.0 c.in_err-perform.ensures.kept

pub returns-in_err-perform-clause-still : goal.returns-in_err-perform-clause-still
returns-in_err-perform-clause-still g c s = c.in_err-perform.ensures.still (c.loop-call.invariant.1 s)

pub returns-in_err-push-clause-kept : goal.returns-in_err-push-clause-kept
returns-in_err-push-clause-kept g c = kept-twice _ _ _ c.loop-call.invariant.0 c.in_ok-perform.ensures.kept

pub returns-in_err-push-clause-still : goal.returns-in_err-push-clause-still
returns-in_err-push-clause-still g c s = c.in_ok-perform.ensures.still (c.loop-call.invariant.1 s)

pub loop-call-preserved : goal.loop-call-preserved
loop-call-preserved g c =
    let (k, sound, n, done, so) = c.loop-call.invariant in
    let p = c.in_ok-perform.ensures in
    let q = c.in_ok-push.ensures.items in
    (kept-twice _ _ _ k p.kept, λ s. p.still (sound s), ap length q ∙ (length_push _ _ ∙ ap (λ (i : ℕ). i + 1) n), λ s. performed-call _ _ _ _ _ _ _ _ _ c.loop-call-test.true q (done s) (p.does (sound s)), λ s f. so-call _ _ _ _ _ _ _ _ _ c.loop-call-test.true n q (so s f) (g.met.S.Solver.lawful _ (p.still (sound s))) p.kept (p.does (sound s)))

pub returns-clause-kept : goal.returns-clause-kept
returns-clause-kept g c = c.loop-call.invariant.0

pub returns-clause-replayed : goal.returns-clause-replayed
returns-clause-replayed g c =
    let (k, sound, n, done, so) = c.loop-call.invariant in
    let i = c.loop-call.call-index in
    let all : i ≡ length c.args.calls.now = omega (arith, c.loop-call-test.false, c.loop-call.auto.call-index-end) in
    record {
      whole = n ∙ all;
      kept = k;
      performed = λ s. performed-all _ _ _ _ i all (done s);
      complete = λ s f. complete _ _ _ _ i all (so s f) (g.met.S.Solver.lawful _ (sound s)) (g.met.S.Solver.limited c.args.solver.now);
    }

pub returns-clause-still : goal.returns-clause-still
returns-clause-still g c = c.loop-call.invariant.1
