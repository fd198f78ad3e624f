use Rattle.std.proofs.Common.{rules, tests, ◌+◌, ◌*◌, false, get_or, refl, ◌∙◌, arith}
use Rattle.std.proofs.lemmas.Iterator.{YieldsList-from_range}
use Rattle.std.proofs.lemmas.Iterator.Search.{find_from_yields_List}
use Rattle.verdict.proofs.Current.{find-only, found-value}
use Rattle.verdict.proofs.reading.read_value.Goals as goal

pub returns : goal.returns
returns g c = λ xs v current h only.
    let f = find_from_yields_List (λ w. get_or xs (c.args.place * c.args.size + w) false) _ _ c.find.result c.find.ensures.ran (YieldsList-from_range 0 c.args.size c.args.size refl (omega arith)) (λ x b q k. search (rules, tests)) in
    let o = find-only (λ w. get_or xs (c.args.place * c.args.size + w) false) v 0 c.args.size (omega arith) (omega arith) (λ w l m. only w (omega arith)) in
    c.unwrap_or.ensures ∙ found-value c.find.result v (f ∙ o)
