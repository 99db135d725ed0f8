pub mod Loop
pub mod Registers
pub mod Places
pub mod Searches
pub mod Bytes
pub mod Parts
pub mod Counts
