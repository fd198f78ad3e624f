use Rattle.std.proofs.Common.{◌^◌, ◌-◌, ◌≤◌, length, rules, arith}
use Rattle.std.proofs.iter.runs.Made.{chains}
use Rattle.std.proofs.lemmas.Iterator.Adapters.{fits_from_length, at_most_from_yields_List}
use Rattle.std.proofs.lemmas.Iterator.{YieldsList-from_slice}
use Rattle.puzzles.proofs.checks.count_value.Goals as goal

-- at most one is counted for each value
pub sum-requires-clause-fits : goal.sum-requires-clause-fits
sum-requires-clause-fits c =
    let few : length c.args.answer.now ≤ 2 ^ 64 - 1 = omega (arith, c.iter.ensures.bound) in
    fits_from_length _ _ (2 ^ 64 - 1) (2 ^ 64) (at_most_from_yields_List (YieldsList-from_slice c.args.answer.now cc) few) c.map.ensures.closure (omega arith) (λ x r q k. search rules)

pub returns : goal.returns
returns c = search (rules, chains)
