pub mod ViewChains
pub mod ViewTails
