pub mod Aparts
pub mod Refusals
pub mod Keeping
