pub mod May
pub mod Conflicting
pub mod Regions
pub mod Firsts
pub mod Pairs
pub mod Across
