pub mod Formats
pub mod Indices
pub mod Exactly
