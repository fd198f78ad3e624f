use Rattle.std.proofs.Common.{◌*◌, sym}
use Rattle.puzzles.proofs.Made.{makeable-size}
use Rattle.puzzles.specs.Givens.{fits}
use Rattle.latin.proofs.Rows.{latin-vars}
use Rattle.latin.specs.Latin.{largest, smallest}
use Rattle.latin.proofs.playing.LatinPuzzle.vars.Goals as goal

pub returns : goal.returns
returns c =
    let l = c.args.self.now in
    sym (latin-vars l.size l.givens.now (makeable-size smallest largest (fits l.size (l.size * l.size)) l.size l.givens.now l.made).0)
