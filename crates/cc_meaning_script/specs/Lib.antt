pub mod Listed
pub mod Answers
pub mod Script
