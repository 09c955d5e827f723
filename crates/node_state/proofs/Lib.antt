pub mod Segments
pub mod Landings
pub mod Entering
