use Rattle.std.proofs.Common.{◌≡◌, ◌+◌, ◌-◌, length, is_ok, None, slice_index, slice_set, sym, ap, ◌∙◌, subst, ⊎_elim, arith}
use Rattle.std.proofs.lemmas.Bool.{false≢true}
use Rattle.rows.specs.declared.kinds.Kind.{Kind}
use Rattle.solver.specs.Stops.{post_stop}
use Rattle.reductions.specs.Joints.{Joined}
use Rattle.reductions.proofs.Calls
use Rattle.reductions.proofs.reduced.ReducedSolver.post.Goals as goal

pub returns-in_err-map_err-clause-posts : goal.returns-in_err-map_err-clause-posts
returns-in_err-map_err-clause-posts g c = λ e.
    let s = c.args.self.now in
    let t = g.T.Translation.rule s.rule in
    let m = g.S.Solver.means s.below in
    let none = subst (λ (q : Kind). post_stop q s.vars s.owed.counts c.args.row.now ≡ None) c.above.ensures c.in_ok-check_row.ensures.0 in
    let x = g.met.T.Translation.exact s.rule in
    absurd (⊎_elim (λ p. false≢true (sym (ap is_ok c.in_err-map_err.was) ∙ c.map_err.ensures.variant ∙ (c.translate.ensures.passes p.0 (Calls.takes t x s.vars s.helper s.owed.counts m p.1 c.args.row.now none)).0))
    (λ r. Calls.idle t.above s.vars s.owed.counts c.args.row.now none r) e)

pub returns-in_err-map_err-clause-still : goal.returns-in_err-map_err-clause-still
returns-in_err-map_err-clause-still g c = λ p.
    let s = c.args.self.now in
    let t = g.T.Translation.rule s.rule in
    let m = g.S.Solver.means s.below in
    let none = subst (λ (q : Kind). post_stop q s.vars s.owed.counts c.args.row.now ≡ None) c.above.ensures c.in_ok-check_row.ensures.0 in
    let x = g.met.T.Translation.exact s.rule in
    absurd (false≢true (sym (ap is_ok c.in_err-map_err.was) ∙ c.map_err.ensures.variant ∙ (c.translate.ensures.passes p.0 (Calls.takes t x s.vars s.helper s.owed.counts m p.1 c.args.row.now none)).0))

pub returns-clause-posts : goal.returns-clause-posts
returns-clause-posts g c = λ e.
    let s = c.args.self.now in
    let t = g.T.Translation.rule s.rule in
    let m = g.S.Solver.means s.below in
    let m' = g.S.Solver.means c.translate.new.below in
    let none = subst (λ (q : Kind). post_stop q s.vars s.owed.counts c.args.row.now ≡ None) c.above.ensures c.in_ok-check_row.ensures.0 in
    let x = g.met.T.Translation.exact s.rule in
    ⊎_elim (λ p. (none, Calls.posted-above t x s.vars s.helper s.owed.counts m p.1 c.args.row.now none m' c.translate.ensures.kept.kind (c.translate.ensures.passes p.0 (Calls.takes t x s.vars s.helper s.owed.counts m p.1 c.args.row.now none)).1))
    (λ r. absurd (Calls.idle t.above s.vars s.owed.counts c.args.row.now none r)) e

pub returns-clause-still : goal.returns-clause-still
returns-clause-still g c = λ p.
    let s = c.args.self.now in
    let t = g.T.Translation.rule s.rule in
    let m = g.S.Solver.means s.below in
    let m' = g.S.Solver.means c.translate.new.below in
    let none = subst (λ (q : Kind). post_stop q s.vars s.owed.counts c.args.row.now ≡ None) c.above.ensures c.in_ok-check_row.ensures.0 in
    let x = g.met.T.Translation.exact s.rule in
    let j = Calls.posted t x s.vars s.helper s.owed.counts m p.1 c.args.row.now none m' c.translate.ensures.kept.kind (c.translate.ensures.passes p.0 (Calls.takes t x s.vars s.helper s.owed.counts m p.1 c.args.row.now none)).1 in
    let w = (g.met.S.Solver.lawful c.translate.new.below (c.translate.ensures.still p.0)).narrow in
    let v = j.vars in
    let a = c.saturating_add-self.ensures in
    let b = c.helpers.ensures in
    let e : s.helper + t.helpers (length c.args.row.now) ≡ c.saturating_add-self.result = omega arith in
    (c.translate.ensures.still p.0, subst (λ h. Joined t s.vars h (slice_set s.owed.counts (length c.args.row.now) (slice_index s.owed.counts (length c.args.row.now) - 1)) m') e j)

pub returns-clause-carried : goal.returns-clause-carried
returns-clause-carried g c = λ p _.
    let s = c.args.self.now in
    let t = g.T.Translation.rule s.rule in
    let m = g.S.Solver.means s.below in
    let m' = g.S.Solver.means c.translate.new.below in
    let none = subst (λ (q : Kind). post_stop q s.vars s.owed.counts c.args.row.now ≡ None) c.above.ensures c.in_ok-check_row.ensures.0 in
    let x = g.met.T.Translation.exact s.rule in
    let rows = (c.translate.ensures.passes p.0 (Calls.takes t x s.vars s.helper s.owed.counts m p.1 c.args.row.now none)).1 in
    let j = Calls.posted t x s.vars s.helper s.owed.counts m p.1 c.args.row.now none m' c.translate.ensures.kept.kind rows in
    let w = (g.met.S.Solver.lawful c.translate.new.below (c.translate.ensures.still p.0)).narrow in
    let v = j.vars in
    let a = c.saturating_add-self.ensures in
    let b = c.helpers.ensures in
    record { rows = rows; next = omega arith }
