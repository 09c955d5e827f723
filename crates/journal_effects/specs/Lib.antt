pub mod Numbered
pub mod Occurred
pub mod Issues
pub mod Laws
