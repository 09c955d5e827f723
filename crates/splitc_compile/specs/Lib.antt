pub mod Compiled
pub mod Answers
