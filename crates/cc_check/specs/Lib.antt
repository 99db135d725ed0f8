pub mod Summaries
pub mod Checking
