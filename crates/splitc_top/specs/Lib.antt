pub mod Words
pub mod Pairs
pub mod Reasons
pub mod Line
pub mod Texts
pub mod Top
