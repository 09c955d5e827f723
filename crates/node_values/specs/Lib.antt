pub mod Operands
pub mod Plain
pub mod Elements
pub mod Printing
