pub mod Uneven
pub mod Meeting
pub mod Noting
pub mod Aligning
pub mod Phasing
