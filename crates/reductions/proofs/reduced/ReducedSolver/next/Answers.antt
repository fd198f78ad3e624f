use Rattle.std.proofs.Common.{is_ok, sym, ap, ◌∙◌, subst}
use Rattle.std.proofs.lemmas.Bool.{false≢true}
use Rattle.solver.specs.Calls.{Draws}
use Rattle.solver.proofs.Refusals
use Rattle.reductions.proofs.Calls
use Rattle.reductions.proofs.reduced.ReducedSolver.next.Goals as goal

pub returns-in_err-map_err-clause-draws : goal.returns-in_err-map_err-clause-draws
returns-in_err-map_err-clause-draws g c = λ p.
    let s = c.args.self.now in
    let b = s.owed.counts in
    let m = g.S.Solver.means s.below in
    let e = c.in_ok-check_ready.ensures.0 in
    absurd (false≢true (sym (ap is_ok c.in_err-map_err.was) ∙ c.map_err.ensures.variant ∙ Calls.draws-below (g.T.Translation.rule s.rule) s.vars s.helper b m (g.S.Solver.means c.next.new.self) p.1 e c.next.result (c.next.ensures.draws p.0)))

pub returns-clause-draws : goal.returns-clause-draws
returns-clause-draws g c = λ p.
    let s = c.args.self.now in
    let b = s.owed.counts in
    let m = g.S.Solver.means s.below in
    let m' = g.S.Solver.means c.next.new.self in
    let d = c.in_ok-map_err.field-0 in
    let o = Calls.ok-below c.next.result c.map_err.result _ c.map_err.ensures.cases c.map_err.ensures.variant d c.in_ok-map_err.was in
    Calls.draws-above (g.T.Translation.rule s.rule) s.vars s.helper b m m' (g.met.S.Solver.lawful s.below p.0) p.1 c.in_ok-check_ready.ensures.0 c.next.ensures.fixed d (subst (Draws m m') o (c.next.ensures.draws p.0))

pub returns-clause-still : goal.returns-clause-still
returns-clause-still g c = λ p.
    let s = c.args.self.now in
    let b = s.owed.counts in
    let m = g.S.Solver.means s.below in
    let m' = g.S.Solver.means c.next.new.self in
    let d = c.in_ok-map_err.field-0 in
    let o = Calls.ok-below c.next.result c.map_err.result _ c.map_err.ensures.cases c.map_err.ensures.variant d c.in_ok-map_err.was in
    (c.next.ensures.still p.0, Calls.drawn-on (g.T.Translation.rule s.rule) s.vars s.helper b m m' (Refusals.ready b c.in_ok-check_ready.ensures.0) c.next.ensures.fixed (Calls.solves-on m m' d (subst (Draws m m') o (c.next.ensures.draws p.0))) p.1)
