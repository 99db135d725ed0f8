pub mod Known
pub mod Placed
pub mod Added
