use Rattle.std.proofs.Common.{◌*◌, ◌/◌, ◌%◌, Bool, false, eqb, List, length, get_or, drop, ◌++◌, ap, arith}
use Rattle.std.proofs.lemmas.List.FromFn.{fill_by_all}
use Rattle.std.proofs.lemmas.List.{length-take-le}
use Rattle.puzzles.proofs.coding.fill_cells.Goals as goal

pub returns : goal.returns
returns c =
    let n = length c.args.answer.now * c.args.size in
    let l = length-take-le n c.args.values.now c.requires in
    ap (λ (xs : List Bool). xs ++ drop n c.args.values.now) (fill_by_all (λ k. eqb (get_or c.args.answer.now (k / c.args.size) 0) (k % c.args.size)) c.loop-i.value-items n false (omega arith) (λ k h. c.loop-i.invariant k (omega arith)))
