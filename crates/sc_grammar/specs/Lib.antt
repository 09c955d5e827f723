pub mod Rest
pub mod Marks
pub mod Expressions
pub mod Statements
pub mod Items
pub mod Sentence
