pub mod Passing
pub mod PairsPosting
pub mod ChainPosting
pub mod TriplesPosting
pub mod Calls
pub mod Adding
pub mod BillsBelow
pub mod Costs
