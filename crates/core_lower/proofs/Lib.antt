pub mod Wholes
pub mod Numbered
pub mod Mains
pub mod Defined
