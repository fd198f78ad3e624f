pub mod Fronts
pub mod Telling
pub mod Promising
pub mod Reading
