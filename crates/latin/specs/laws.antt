-- The proof of the law that the puzzle gives. No contract cites it.
pub mod LatinLined
