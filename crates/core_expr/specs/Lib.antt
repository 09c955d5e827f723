pub mod ViewFound
pub mod Exposed
pub mod Listed
