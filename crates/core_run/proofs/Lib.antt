pub mod Advancing
pub mod Dropping
pub mod Answering
pub mod Running
pub mod Enacting
pub mod Fitting
pub mod Deciding
