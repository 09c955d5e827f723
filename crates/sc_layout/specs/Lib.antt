pub mod Bound
pub mod Layout
pub mod Place
pub mod Start
pub mod Pointer
pub mod Small
pub mod Laws
