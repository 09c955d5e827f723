pub mod Courses
pub mod Stage
pub mod Laws
pub mod Ending
