pub mod Tables
pub mod Lowest
pub mod Reaching
pub mod Verdicts
