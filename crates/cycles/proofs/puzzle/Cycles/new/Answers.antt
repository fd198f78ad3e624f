use Rattle.std.proofs.Common.{[], refl}
use Rattle.cycles.proofs.puzzle.Cycles.new.Goals as goal

pub invariant_of-result : goal.invariant_of-result
invariant_of-result c = record {
  made = refl;
  told = c.table_of_arcs-linked.ensures;
  listed = c.of.ensures [] c.table_of_arcs-linked.ensures;
}
