use Rattle.std.proofs.Common.{◌≡◌, ◌*◌, ◌≤◌, List, length, take}
use Rattle.cycles.proofs.GapLists.{gaps_among}
use Rattle.cycles.specs.Arcs.{Tells}
use Rattle.cycles.specs.Cycles.{largest}
use Rattle.cycles.specs.declared.arcs.Arc.{Arc}
use Rattle.cycles.proofs.gaps.Gaps.of.Given as goal

-- the gaps among the pairs so far are listed
abbrev pub invariant-loop-i : goal.invariant-loop-i
invariant-loop-i l = record {
  listed : (arcs : List Arc) → Tells l.size arcs l.linked → take l.len l.pairs ≡ gaps_among l.size arcs l.i;
  few : l.len ≤ l.i;
  whole : length l.pairs ≡ largest * largest;
}
