pub mod Seeded
pub mod Shown
