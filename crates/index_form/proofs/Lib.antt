pub mod Chains
pub mod Seeing
pub mod Offsetting
pub mod Placed
