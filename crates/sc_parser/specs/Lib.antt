pub mod Returned
pub mod ViewItem
pub mod ViewFound
pub mod ViewParts
