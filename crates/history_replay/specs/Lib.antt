pub mod Fronts
pub mod Reached
