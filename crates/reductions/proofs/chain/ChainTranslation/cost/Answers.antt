use Rattle.std.proofs.Common.{refl, ℕ, ◌+◌, ◌-◌, ◌*◌, List, slice_set, sym, ap, ◌∙◌}
use Rattle.reductions.specs.Translations.{chain}
use Rattle.reductions.proofs.Costs.{chain-cost-long, chain-cost-short, cost-none}
use Rattle.reductions.proofs.chain.ChainTranslation.cost.Goals as goal

pub returns-then-len-le3 : goal.returns-then-len-le3
returns-then-len-le3 c = ap (λ (xs : List ℕ). slice_set xs c.args.len 1) c.empty-bill.ensures ∙ chain-cost-short c.args.len c.if-len-le3.true

pub returns-then-has_length : goal.returns-then-has_length
returns-then-has_length c =
    let k = c.args.len in
    ap (λ (xs : List ℕ). slice_set (slice_set xs 2 (2 * (k - 3))) 3 (k - 3 + 1)) c.empty-bill.ensures ∙ chain-cost-long k (2 * (k - 3)) (k - 3 + 1) (sym c.has_length.ensures ∙ c.if-has_length.true) c.if-len-le3.false refl refl

pub returns-else-has_length : goal.returns-else-has_length
returns-else-has_length c = c.empty-bill.ensures ∙ cost-none chain c.args.len (sym c.has_length.ensures ∙ c.if-has_length.false)
