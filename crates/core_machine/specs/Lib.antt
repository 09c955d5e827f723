pub mod Todo
pub mod Jumps
pub mod Deeds
pub mod Moves
pub mod Runs
pub mod Links
pub mod Law
