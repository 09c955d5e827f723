pub mod Placed
pub mod Demanding
pub mod Waiting
pub mod Laws
pub mod Plain
