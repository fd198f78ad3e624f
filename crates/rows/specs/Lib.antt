pub mod Literals
pub mod Kinds
pub mod Firsts
pub mod Truth
pub mod Stops
pub mod Judging
pub mod Buffers
pub mod Bills
