-- The queens puzzle that a value holds.
use Rattle.puzzles.specs.Boards.{Board}
use Rattle.puzzles.specs.Making.{Setup, setup}
use Rattle.puzzles.specs.declared.givens.Given.{Given}
use Rattle.queens.specs.Queens.{queens}
use Rattle.queens.specs.declared.puzzle.Queens.{Queens}

-- the board that a value stands for
abbrev pub queens_of : Queens → Board
queens_of q = queens q.size q.givens.now

-- what it was made of
abbrev pub queens_setup : Queens → Setup Given
queens_setup q = setup q.size q.givens.now
