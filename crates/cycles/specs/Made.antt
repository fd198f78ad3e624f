-- The Hamiltonian cycle puzzle that a value holds.
use Rattle.puzzles.specs.Boards.{Board}
use Rattle.puzzles.specs.Making.{Setup, setup}
use Rattle.cycles.specs.Cycles.{cycles}
use Rattle.cycles.specs.declared.arcs.Arc.{Arc}
use Rattle.cycles.specs.declared.puzzle.Cycles.{Cycles}

-- the board that a value stands for
abbrev pub cycles_of : Cycles → Board
cycles_of c = cycles c.size c.arcs.now

-- what it was made of
abbrev pub cycles_setup : Cycles → Setup Arc
cycles_setup c = setup c.size c.arcs.now
