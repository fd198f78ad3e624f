use Rattle.std.proofs.Common.{List, ℕ, slice_set, sym, ap, ◌∙◌}
use Rattle.reductions.specs.Translations.{narrow}
use Rattle.reductions.proofs.Costs.{cost-none, narrow-cost}
use Rattle.reductions.proofs.narrow.NarrowTranslation.cost.Goals as goal

pub returns-then-has_length : goal.returns-then-has_length
returns-then-has_length c = ap (λ (xs : List ℕ). slice_set xs c.args.len 1) c.empty-bill.ensures ∙ narrow-cost c.args.self.now.kind c.args.len (sym c.has_length.ensures ∙ c.if-has_length.true)

pub returns-else-has_length : goal.returns-else-has_length
returns-else-has_length c = c.empty-bill.ensures ∙ cost-none (narrow c.args.self.now.kind) c.args.len (sym c.has_length.ensures ∙ c.if-has_length.false)
