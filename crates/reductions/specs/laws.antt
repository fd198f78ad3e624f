-- The proofs of the laws that translations and stacks give. No contract cites them.
pub mod Each
pub mod Helpers
pub mod Variables
pub mod NarrowExact
pub mod PairsExact
pub mod ChainExact
pub mod TriplesExact
pub mod Extending
pub mod Charging
pub mod Joining
