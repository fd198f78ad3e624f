use Rattle.std.proofs.Common.{◌*◌, sym}
use Rattle.puzzles.proofs.Made.{makeable-size}
use Rattle.puzzles.specs.Givens.{fits}
use Rattle.latin.proofs.Rows.{latin-length}
use Rattle.latin.specs.Latin.{largest, smallest}
use Rattle.latin.proofs.playing.LatinPuzzle.rows.Goals as goal

pub returns : goal.returns
returns c =
    let l = c.args.self.now in
    sym (latin-length l.size l.givens.now (makeable-size smallest largest (fits l.size (l.size * l.size)) l.size l.givens.now l.made).0)
