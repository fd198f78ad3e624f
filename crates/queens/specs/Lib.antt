pub mod Queens
pub mod Made
pub mod laws
