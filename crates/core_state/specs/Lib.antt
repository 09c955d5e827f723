pub mod Locals
pub mod PlainDeeds
