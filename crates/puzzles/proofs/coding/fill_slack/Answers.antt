use Rattle.std.proofs.Common.{◌≡◌, ◌/◌, ◌<◌, ap, ◌∙◌, subst, arith}
use Rattle.std.specs.Result.{result_unwrap_or}
use Rattle.std.specs.List.{All}
use Rattle.rows.specs.Truth.{valuation, truths, trues}
use Rattle.rows.specs.Judging.{counted}
use Rattle.puzzles.proofs.Lasts.{all-last, last-is, others-count}
use Rattle.puzzles.proofs.coding.fill_slack.Goals as goal

pub returns-then-slack-values : goal.returns-then-slack-values
returns-then-slack-values c =
    let whole = c.in-Some.ensures.cases.0 in
    record {
      plain = λ k.
          let m = all-last (λ l. l / 2 < c.args.cells) c.in-Some.others.now c.in-Some.last.now (subst (All (λ l. l / 2 < c.args.cells)) whole k) in
          absurd (omega (arith, c.if-slack-cells.true, c.variable-slack.ensures, m));
      slack = λ others s e h l k.
          let q = last-is c.args.row.now others c.in-Some.others.now c.in-Some.last.now s whole e in
          let v : c.variable-slack.result ≡ s = c.variable-slack.ensures ∙ q.1 in
          let t : c.unwrap_or-trues.result ≡ trues (truths (valuation c.args.values.now) others) = c.unwrap_or-trues.ensures ∙ (ap (λ r. result_unwrap_or r 0) (c.count_true.ensures.value ∙ ap (counted c.args.values.now) q.0) ∙ others-count c.args.cells c.args.values.now others (omega arith) k) in
          cc;
    }
