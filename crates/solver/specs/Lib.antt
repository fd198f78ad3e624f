pub mod Stops
pub mod Meaning
pub mod Laws
pub mod Calls
