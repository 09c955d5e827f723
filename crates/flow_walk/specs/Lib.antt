pub mod Walked
pub mod Steps
pub mod Sources
