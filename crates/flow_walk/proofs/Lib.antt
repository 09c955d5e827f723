pub mod Acting
pub mod Mines
pub mod Walking
pub mod Starting
pub mod Sourcing
