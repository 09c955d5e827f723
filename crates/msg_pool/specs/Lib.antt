pub mod Pool
pub mod Chains
pub mod Slots
pub mod Sound
pub mod Inner
pub mod Laws
