pub mod On
pub mod Arranged
