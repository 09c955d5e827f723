pub mod Proper
pub mod Law
