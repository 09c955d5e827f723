pub mod Judging
pub mod Courses
