use Rattle.std.proofs.Common.{ℕ, ◌+◌, List, [], ◌∷◌, ◌++◌, length, take, slice_set, ap₂, ◌∙◌, append_assoc, rules}
use Rattle.std.proofs.lemmas.List.{take_more_set}
use Rattle.std.proofs.lemmas.Slice.{take-put_mid}
use Rattle.search.proofs.store.filling.write_row.Goals as goal

pub returns : goal.returns
returns c =
    let k : ℕ = length c.args.row.now in
    take-put_mid (c.args.at + 1) _ (slice_set c.args.work.now c.args.at k) c.copy_from_slice.new.self (c.args.at + k + 1) (search rules) (search rules)
    ∙ (ap₂ (λ (xs ys : List ℕ). xs ++ ys) (take_more_set c.args.work.now c.args.at k (search rules)) (search rules)
    ∙ append_assoc (take c.args.at c.args.work.now) (k ∷ []) c.args.row.now)
