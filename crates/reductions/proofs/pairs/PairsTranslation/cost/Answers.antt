use Rattle.std.proofs.Common.{ℕ, ◌+◌, ◌*◌, ◌/◌, List, slice_index, slice_set, sym, ap, ◌∙◌}
use Rattle.reductions.specs.Translations.{pairs}
use Rattle.reductions.proofs.Costs.{cost-none, pairs-cost}
use Rattle.reductions.proofs.pairs.PairsTranslation.cost.Goals as goal

pub returns-then-has_length : goal.returns-then-has_length
returns-then-has_length c =
    let k = c.args.len in
    let n = k * c.saturating_sub.result / 2 in
    ap (λ (xs : List ℕ). slice_set (slice_set xs k 1) 2 (slice_index (slice_set xs k 1) 2 + n)) c.empty-bill.ensures ∙ pairs-cost k n (sym c.has_length.ensures ∙ c.if-has_length.true) (ap (λ m. k * m / 2) c.saturating_sub.ensures)

pub returns-else-has_length : goal.returns-else-has_length
returns-else-has_length c = c.empty-bill.ensures ∙ cost-none pairs c.args.len (sym c.has_length.ensures ∙ c.if-has_length.false)
