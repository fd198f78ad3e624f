use Rattle.std.proofs.Common.{◌≡◌, ℕ, List, length, replicate, slice_set, sym, ap, ◌∙◌}
use Rattle.rows.specs.Kinds.{lengths}
use Rattle.reductions.specs.Translations.{triples}
use Rattle.reductions.specs.laws.TriplesExact.{tripled}
use Rattle.reductions.proofs.Costs.{cost-none, triples-cost, tripled-other, tripled-three}
use Rattle.reductions.proofs.triples.TriplesTranslation.cost.Goals as goal

pub returns-after-len-eq3 : goal.returns-after-len-eq3
returns-after-len-eq3 c =
    let k = c.args.len in
    let legal = sym c.has_length.ensures ∙ c.if-has_length.true in
    let e : c.if-len-eq3.bill ≡ length (tripled k) = elim c.if-len-eq3.branch [
      | goal.then-len-eq3 w ↦ w.bill-is ∙ tripled-three k w.if-len-eq3.true
      | goal.else-len-eq3 w ↦ w.bill-is ∙ tripled-other k legal w.if-len-eq3.false
    ] in
    ap (λ (xs : List ℕ). slice_set xs 3 c.if-len-eq3.bill) c.empty-bill.ensures ∙ ap (λ (v : ℕ). slice_set (replicate lengths 0) 3 v) e ∙ triples-cost k legal

pub returns-else-has_length : goal.returns-else-has_length
returns-else-has_length c = c.empty-bill.ensures ∙ cost-none triples c.args.len (sym c.has_length.ensures ∙ c.if-has_length.false)
