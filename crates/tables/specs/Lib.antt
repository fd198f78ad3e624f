pub mod Numbers
pub mod Limits
pub mod Cells
pub mod Tables
pub mod laws
