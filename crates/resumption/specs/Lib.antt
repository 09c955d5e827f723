pub mod Resumption
pub mod Forgetting
pub mod Laws
