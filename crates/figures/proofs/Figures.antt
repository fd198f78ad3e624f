-- The figures, by computing.
use Rattle.std.proofs.Common.{refl}
use Rattle.rows.specs.Bills.{bill_of}
use Rattle.rows.specs.Literals.{opposite, truth_of}
use Rattle.reductions.specs.Bills.{bill_below}
use Rattle.figures.specs.Worked.{Worked}

pub by-computing : Worked
unfolding bill_of bill_below opposite truth_of
by-computing = record {
  gadget = refl;
  four = (refl, refl);
  square = refl;
  twelve_pairs = refl;
  twelve_triples = refl;
  twelve_taken = refl;
  twelve_refused = refl;
  board = refl;
  board_pairs = refl;
  board_triples = refl;
}
