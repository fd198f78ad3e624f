use Rattle.std.proofs.Common.{sym, arith}
use Rattle.puzzles.proofs.Reading.{next-row}
use Rattle.puzzles.specs.Boards.{rows}
use Rattle.puzzles.proofs.walking.RowsOfIterator.next.Goals as goal

pub returns-clause-steps : goal.returns-clause-steps
returns-clause-steps g c =
    let e = c.in_ok-index.ensures in
    next-row (rows (g.P.Puzzle.board c.self.inside.puzzle.now)) _ c.self.inside.indices.start c.in_ok-index.index c.next.new.self.start _ (sym c.self.view_is) (omega arith) (omega arith) (omega arith) c.row.ensures
