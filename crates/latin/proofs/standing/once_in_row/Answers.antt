use Rattle.std.proofs.Common.{eqb, count_by, ap, ◌∙◌}
use Rattle.std.specs.List.{range_with_len, list_all}
use Rattle.latin.proofs.Rows.{row-part}
use Rattle.latin.proofs.standing.once_in_row.Goals as goal

pub returns : goal.returns
returns c =
    let n = c.args.size in
    c.each_once.ensures ∙ ap (λ xs. list_all (λ v. eqb (count_by (λ x. eqb x v) xs) 1) (range_with_len 0 n)) (row-part n c.args.answer.now c.args.row c.requires.on_board c.requires.square)
