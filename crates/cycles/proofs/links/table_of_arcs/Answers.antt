use Rattle.std.proofs.Common.{◌+◌, ◌*◌, false, refl, ◌∙◌, arith}
use Rattle.std.proofs.lemmas.Nat.{mul-le, mul-add-lt}
use Rattle.std.proofs.lemmas.List.{get_or-replicate, length-set}
use Rattle.cycles.proofs.LinkTables.{told-more}
use Rattle.cycles.specs.Arcs.{arc}
use Rattle.cycles.specs.Cycles.{largest}
use Rattle.cycles.proofs.links.table_of_arcs.Goals as goal

pub loop-arc-init : goal.loop-arc-init
loop-arc-init c =
    let m = mul-le c.args.size c.args.size largest largest c.requires.few c.requires.few in
    record {
      told = λ u w h l. get_or-replicate (largest * largest) (u * c.args.size + w) false false (omega (arith, mul-add-lt u c.args.size w c.args.size h l));
      whole = refl;
    }

pub loop-arc-preserved : goal.loop-arc-preserved
loop-arc-preserved c =
    let m = mul-le c.args.size c.args.size largest largest c.requires.few c.requires.few in
    let b = c.requires.between c.loop-arc.arc-index (arc 0 0) c.loop-arc-test.true in
    record {
      told = told-more c.args.size c.args.arcs.now c.loop-arc.arc-index c.loop-arc.table (arc 0 0) (omega arith) c.loop-arc-test.true b.0 b.1 c.loop-arc.invariant.told;
      whole = length-set _ _ _ ∙ c.loop-arc.invariant.whole;
    }
