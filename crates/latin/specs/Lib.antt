pub mod Latin
pub mod Made
pub mod laws
