use Rattle.std.proofs.Common.{rules, tests, Some, refl, ◌≡◌, ℕ, ◌+◌, true, is_ok, None, Ok, List, sym, ap, ◌∙◌, subst, arith}
use Rattle.solver.specs.Calls.{Opens}
use Rattle.reductions.specs.Bills.{bill_below, helped}
use Rattle.reductions.proofs.Calls
use Rattle.reductions.proofs.reduced.ReducedSolver.open.Goals as goal

pub returns-then-ne-clause-opens : goal.returns-then-ne-clause-opens
returns-then-ne-clause-opens g c = (Calls.misfit (g.T.Translation.rule c.args.self.now.rule) (g.S.Solver.means c.args.self.now.below) c.args.vars c.args.bill.now.counts (search (rules, tests)) ∙ ap Some (sym c.here.ensures), refl)

pub returns-clause-opens : goal.returns-clause-opens
returns-clause-opens g c =
    let s = c.args.self.now in
    let t = g.T.Translation.rule s.rule in
    let n = c.args.vars in
    let b = c.args.bill.now.counts in
    let m = g.S.Solver.means s.below in
    let m' = g.S.Solver.means c.open.new.self in
    let k₀ : c.kind.result ≡ c.below.result = grind arith in
    let k : m.kind ≡ t.below = sym c.kind.ensures ∙ k₀ ∙ c.below.ensures in
    let l = c.in_ok-vars_below.ensures in
    let r : c.open.result ≡ Ok c.in_ok-map_err.field-0 = Calls.ok-below c.open.result c.map_err.result _ c.map_err.ensures.cases c.map_err.ensures.variant c.in_ok-map_err.field-0 c.in_ok-map_err.was in
    let o₁ = subst (λ v. Opens m m' v c.in_ok-vars_below.bill_below.counts c.open.result) l.1 c.open.ensures.opens in
    let o₂ = subst (λ v. Opens m m' (n + helped t 0 b) v c.open.result) l.2 o₁ in
    let o = subst (Opens m m' (n + helped t 0 b) (bill_below t b)) r o₂ in
    (Calls.open-taken t m n b k l.0 o.0, Calls.opened-above t n b m' (c.open.ensures.kept.kind ∙ k) o.1)

pub returns-clause-sound : goal.returns-clause-sound
returns-clause-sound g c = λ e.
    let s = c.args.self.now in
    let t = g.T.Translation.rule s.rule in
    let n = c.args.vars in
    let b = c.args.bill.now.counts in
    let m = g.S.Solver.means s.below in
    let m' = g.S.Solver.means c.open.new.self in
    let k₀ : c.kind.result ≡ c.below.result = grind arith in
    let k : m.kind ≡ t.below = sym c.kind.ensures ∙ k₀ ∙ c.below.ensures in
    let l = c.in_ok-vars_below.ensures in
    let r : c.open.result ≡ Ok c.in_ok-map_err.field-0 = Calls.ok-below c.open.result c.map_err.result _ c.map_err.ensures.cases c.map_err.ensures.variant c.in_ok-map_err.field-0 c.in_ok-map_err.was in
    let o₁ = subst (λ v. Opens m m' v c.in_ok-vars_below.bill_below.counts c.open.result) l.1 c.open.ensures.opens in
    let o₂ = subst (λ v. Opens m m' (n + helped t 0 b) v c.open.result) l.2 o₁ in
    let o = subst (Opens m m' (n + helped t 0 b) (bill_below t b)) r o₂ in
    (c.open.ensures.sound (ap is_ok r), Calls.opened t n b m' (c.open.ensures.kept.kind ∙ k) o.1)

pub returns-clause-still : goal.returns-clause-still
returns-clause-still g c = λ p. returns-clause-sound g c Rattle.std.proofs.Common.refl
