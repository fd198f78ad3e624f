-- The proof of the law that the puzzle gives. No contract cites it.
pub mod Tests
pub mod CyclesLined
