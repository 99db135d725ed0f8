pub mod Tables
pub mod Steps
pub mod Lowest
pub mod Reaching
pub mod Verdicts
