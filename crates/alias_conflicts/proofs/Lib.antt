pub mod Remainders
pub mod Cells
pub mod Finding
pub mod Reaching
pub mod SharedCells
pub mod Tables
pub mod TwoNodes
pub mod NodeNumbers
