use Rattle.std.proofs.Common.{◌≡◌, ◌*◌, take, length}
use Rattle.cycles.specs.Arcs.{Tells}
use Rattle.cycles.specs.Cycles.{largest}
use Rattle.cycles.proofs.links.table_of_arcs.Given as goal

-- the table tells of the arcs so far
abbrev pub invariant-loop-arc : goal.invariant-loop-arc
invariant-loop-arc l = record {
  told : Tells l.size (take l.arc-index l.arcs) l.table;
  whole : length l.table ≡ largest * largest;
}
