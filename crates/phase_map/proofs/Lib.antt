pub mod Notes
pub mod Branching
pub mod Noted
pub mod Partings
pub mod Least
pub mod Sweeping
pub mod Pairs
