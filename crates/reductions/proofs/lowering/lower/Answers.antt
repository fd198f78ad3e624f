use Rattle.std.proofs.Common.{◌≡◌, ℕ, ◌+◌, ◌*◌, ◌^◌, ◌<◌, ◌≤◌, true, length, slice_index, sym, refl, ap, ◌∙◌, subst, arith}
use Rattle.rows.specs.declared.kinds.Kind.{Kind}
use Rattle.rows.specs.Bills.{counts_within}
use Rattle.rows.specs.Kinds.{lengths}
use Rattle.reductions.proofs.BillsBelow as below
use Rattle.reductions.proofs.BillsBelow.{Lowering}
use Rattle.reductions.proofs.lowering.lower.Goals as goal

pub overflow_cast-helpers : goal.overflow_cast-helpers
overflow_cast-helpers g c =
    let t = g.T.Translation.rule c.args.rule.now in
    let b = c.args.bill.now.counts in
    let ok = subst (λ (q : Kind). counts_within q 0 b ≡ true) c.above.ensures (sym c.is_within.ensures ∙ c.if-not-is_within.false) in
    let size : length b ≡ lengths = omega arith in
    let n : c.loop-len.len < length b = omega arith in
    let f = below.lowering-helpers t (g.met.T.Translation.exact c.args.rule.now) b ok c.loop-len.len n c.loop-len.helpers c.loop-len.below.counts c.loop-len.invariant c.if-count-gt0.true size in
    let e = c.helpers.ensures in
    omega arith

pub overflow_mul-helpers : goal.overflow_mul-helpers
overflow_mul-helpers g c =
    let t = g.T.Translation.rule c.args.rule.now in
    let b = c.args.bill.now.counts in
    let ok = subst (λ (q : Kind). counts_within q 0 b ≡ true) c.above.ensures (sym c.is_within.ensures ∙ c.if-not-is_within.false) in
    let size : length b ≡ lengths = omega arith in
    let n : c.loop-len.len < length b = omega arith in
    let f = below.lowering-fits t (g.met.T.Translation.exact c.args.rule.now) b ok c.loop-len.len n c.loop-len.helpers c.loop-len.below.counts c.loop-len.invariant c.if-count-gt0.true size in
    rw c.helpers.ensures (omega arith)

pub overflow_add-helpers : goal.overflow_add-helpers
overflow_add-helpers g c =
    let t = g.T.Translation.rule c.args.rule.now in
    let b = c.args.bill.now.counts in
    let ok = subst (λ (q : Kind). counts_within q 0 b ≡ true) c.above.ensures (sym c.is_within.ensures ∙ c.if-not-is_within.false) in
    let size : length b ≡ lengths = omega arith in
    let n : c.loop-len.len < length b = omega arith in
    let f = below.lowering-fits t (g.met.T.Translation.exact c.args.rule.now) b ok c.loop-len.len n c.loop-len.helpers c.loop-len.below.counts c.loop-len.invariant c.if-count-gt0.true size in
    rw c.helpers.ensures (omega arith)

pub charge-requires : goal.charge-requires
charge-requires g c =
    let t = g.T.Translation.rule c.args.rule.now in
    let b = c.args.bill.now.counts in
    let ok = subst (λ (q : Kind). counts_within q 0 b ≡ true) c.above.ensures (sym c.is_within.ensures ∙ c.if-not-is_within.false) in
    let size : length b ≡ lengths = omega arith in
    let n : c.loop-len.len < length b = omega arith in
    subst (λ xs. (l : ℕ) → slice_index c.loop-len.below.counts l + slice_index b c.loop-len.len * slice_index xs l < 2 ^ 32) (sym c.cost.ensures)
    (below.lowering-room t (g.met.T.Translation.exact c.args.rule.now) b ok c.loop-len.len n c.loop-len.helpers c.loop-len.below.counts c.loop-len.invariant c.if-count-gt0.true size)

pub loop-len-init : goal.loop-len-init
loop-len-init g c =
    let t = g.T.Translation.rule c.args.rule.now in
    let b = c.args.bill.now.counts in
    subst (λ below. Lowering t b 0 0 below) (sym c.empty-below.ensures) (below.lowering-start t b)

pub loop-len-preserved : goal.loop-len-preserved
loop-len-preserved g c =
    let t = g.T.Translation.rule c.args.rule.now in
    let b = c.args.bill.now.counts in
    let x = g.met.T.Translation.exact c.args.rule.now in
    let ok = subst (λ (q : Kind). counts_within q 0 b ≡ true) c.above.ensures (sym c.is_within.ensures ∙ c.if-not-is_within.false) in
    let size : length b ≡ lengths = omega arith in
    let n : c.loop-len.len < length b = omega arith in
    elim c.if-count-gt0.branch [
      | goal.then-count-gt0 w ↦
          let e : c.loop-len.helpers + slice_index b c.loop-len.len * w.helpers.result ≡ c.loop-len.helpers + slice_index b c.loop-len.len * t.helpers c.loop-len.len = rw w.helpers.ensures refl in
          let f = subst (λ xs. (l : ℕ) → slice_index w.charge.new.bill.counts l ≡ slice_index c.loop-len.below.counts l + slice_index b c.loop-len.len * slice_index xs l) w.cost.ensures w.charge.ensures.adds in
          rw (w.helpers-is, w.below-is) (below.lowering-more t x b ok c.loop-len.len n c.loop-len.helpers c.loop-len.below.counts c.loop-len.invariant w.if-count-gt0.true size _ w.charge.new.bill.counts e w.charge.ensures.size f)
      | goal.else-count-gt0 w ↦ rw (w.helpers-is, w.below-is) (below.lowering-skip t x b ok c.loop-len.len n c.loop-len.helpers c.loop-len.below.counts c.loop-len.invariant (omega arith))
    ]

pub overflow_add-result : goal.overflow_add-result
overflow_add-result g c =
    let t = g.T.Translation.rule c.args.rule.now in
    let b = c.args.bill.now.counts in
    let ok = subst (λ (q : Kind). counts_within q 0 b ≡ true) c.above.ensures (sym c.is_within.ensures ∙ c.if-not-is_within.false) in
    let size : length b ≡ lengths = omega arith in
    let n : c.loop-len.len ≤ length b = omega arith in
    let f = below.lowering-small t (g.met.T.Translation.exact c.args.rule.now) b ok c.loop-len.len c.loop-len.helpers c.loop-len.below.counts c.loop-len.invariant n size in
    let v = c.if-vars-gt-VARIABLES.false in
    omega arith

pub returns : goal.returns
returns g c =
    let t = g.T.Translation.rule c.args.rule.now in
    let b = c.args.bill.now.counts in
    let ok = subst (λ (q : Kind). counts_within q 0 b ≡ true) c.above.ensures (sym c.is_within.ensures ∙ c.if-not-is_within.false) in
    let size : length b ≡ lengths = omega arith in
    let n : length b ≤ c.loop-len.len = omega arith in
    let (e, f) = below.lowering-end t b c.loop-len.len c.loop-len.helpers c.loop-len.below.counts c.loop-len.invariant n in
    (below.own-none t c.args.vars b c.if-vars-gt-VARIABLES.false ok, ap (λ h. c.args.vars + h) e, f)
