pub mod Lawful
pub mod OneAnswer
pub mod Read
pub mod SomeAnswer
