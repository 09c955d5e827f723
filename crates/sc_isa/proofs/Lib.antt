pub mod Lines
pub mod Weights
pub mod Moving
pub mod Settling
pub mod Exact
pub mod Examples
pub mod Counters
