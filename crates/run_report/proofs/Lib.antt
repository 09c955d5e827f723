pub mod Lines
pub mod Ends
pub mod Counts
pub mod CellTexts
pub mod Places
pub mod ShownSame
