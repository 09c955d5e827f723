pub mod Noted
pub mod Around
pub mod Drawn
pub mod Drawings
