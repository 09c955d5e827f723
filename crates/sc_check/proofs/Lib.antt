pub mod Definitions
pub mod Signatures
pub mod Answered
