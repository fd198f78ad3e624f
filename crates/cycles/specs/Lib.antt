pub mod Arcs
pub mod Cycles
pub mod Made
pub mod laws
