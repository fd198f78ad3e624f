pub mod Histories
pub mod Performing
pub mod Promises
