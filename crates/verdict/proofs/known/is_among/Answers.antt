use Rattle.std.proofs.Common.{rules, tests, ◌*◌, length, take, drop, refl, ◌∙◌, arith}
use Rattle.std.specs.Str.{bytes_eq}
use Rattle.std.proofs.lemmas.Iterator.{YieldsList-from_range}
use Rattle.std.proofs.lemmas.Iterator.Search.{any_from_yields_List}
use Rattle.verdict.proofs.KnownAnswers.{among-first}
use Rattle.verdict.proofs.known.is_among.Goals as goal

pub returns : goal.returns
returns c =
    let places = length c.args.answer.now in
    any_from_yields_List (λ i. bytes_eq c.args.answer.now (take places (drop (i * places) c.args.known.now))) _ _ _ c.any.ensures.ran (YieldsList-from_range 0 c.args.count c.args.count refl (omega arith)) (λ x b q k. search (rules, tests))
    ∙ among-first places c.args.count c.args.known.now c.args.answer.now c.requires
