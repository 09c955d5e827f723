pub mod Ordering
pub mod Listed
