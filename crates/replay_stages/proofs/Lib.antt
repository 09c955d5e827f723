pub mod Courses
pub mod Known
pub mod Doom
pub mod Testing
pub mod Moving
pub mod Going
pub mod Ending
