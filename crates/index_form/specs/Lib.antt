pub mod Readers
pub mod Outermost
pub mod Chains
pub mod Seen
pub mod Offsets
pub mod Placing
