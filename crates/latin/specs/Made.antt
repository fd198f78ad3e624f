-- The Latin square that a value holds.
use Rattle.puzzles.specs.Boards.{Board}
use Rattle.puzzles.specs.Making.{Setup, setup}
use Rattle.puzzles.specs.declared.givens.Given.{Given}
use Rattle.latin.specs.Latin.{latin}
use Rattle.latin.specs.declared.puzzle.Latin.{Latin}

-- the board that a value stands for
abbrev pub latin_of : Latin → Board
latin_of l = latin l.size l.givens.now

-- what it was made of
abbrev pub latin_setup : Latin → Setup Given
latin_setup l = setup l.size l.givens.now
