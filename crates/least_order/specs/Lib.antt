pub mod Least
pub mod Taking
pub mod Ways
