use Rattle.std.proofs.Common.{Ok, sym, ap, ◌∙◌}
use Rattle.rows.proofs.Judged.{judged-counted}
use Rattle.rows.proofs.judging.judge.Goals as goal

pub returns : goal.returns
returns c =
    let fits = sym c.has_length.ensures ∙ c.if-not-has_length.false in
    let counted = sym c.count_true.ensures.value ∙ c.in_ok-trues.was in
    ap Ok c.is_met_by.ensures ∙ sym (judged-counted c.args.kind c.args.values.now c.args.row.now c.in_ok-trues.trues fits counted)
