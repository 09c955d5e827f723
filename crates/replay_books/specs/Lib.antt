pub mod Counts
pub mod Entry
pub mod Row
pub mod Tables
