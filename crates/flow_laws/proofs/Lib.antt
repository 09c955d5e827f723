pub mod Facts
pub mod Deeds
pub mod Passing
pub mod Walks
pub mod Named
