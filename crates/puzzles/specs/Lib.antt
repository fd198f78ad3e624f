pub mod Lines
pub mod Boards
pub mod Calls
pub mod Words
pub mod Making
pub mod Givens
pub mod Filling
