pub mod Backs
pub mod Courses
