pub mod Parts
pub mod Wanted
pub mod Growing
pub mod Taking
pub mod Steps
pub mod Loops
