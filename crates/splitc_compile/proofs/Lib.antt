pub mod Begins
pub mod Answered
pub mod Emitted
