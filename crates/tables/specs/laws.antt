-- The proofs of the laws that the truth table gives as a solver. No contract cites them.
pub mod Numbering
pub mod Keeping
