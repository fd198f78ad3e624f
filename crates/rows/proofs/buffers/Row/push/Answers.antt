use Rattle.std.proofs.Common.{ℕ, List, [], ◌∷◌, ◌++◌, ap, ◌∙◌, arith}
use Rattle.std.proofs.lemmas.List.{take_more_set}
use Rattle.rows.proofs.buffers.Row.push.Goals as goal

pub returns-clause-after : goal.returns-clause-after
returns-clause-after c =
    take_more_set c.self.inside.literals c.self.inside.len c.args.literal (omega (arith, c.self.invariant.room, c.if-at-ge-LONGEST.false))
    ∙ ap (λ (xs : List ℕ). xs ++ c.args.literal ∷ []) c.self.view_is
