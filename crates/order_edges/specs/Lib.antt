pub mod Lines
pub mod Steps
pub mod Kinds
pub mod Tables
pub mod Keyed
pub mod Whole
