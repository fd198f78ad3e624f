pub mod Rules
pub mod Translations
pub mod Bills
pub mod Joints
pub mod laws
