pub mod Runs
pub mod Seeds
