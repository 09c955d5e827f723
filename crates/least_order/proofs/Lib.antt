pub mod Counting
pub mod Steps
pub mod Picks
pub mod Loops
pub mod Releases
pub mod Whole
pub mod Reduced
pub mod Items
