pub mod Positions
pub mod Tallies
pub mod Wording
pub mod Scans
pub mod Limits
pub mod Opposites
pub mod Judged
