pub mod Moves
pub mod OfCode
pub mod Placed
pub mod Simulated
pub mod Laws
