pub mod Stars
pub mod Exposed
pub mod Equations
pub mod Indices
