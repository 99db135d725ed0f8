pub mod Verdicts
pub mod Hellos
pub mod Worked
pub mod Functions
pub mod Answers
