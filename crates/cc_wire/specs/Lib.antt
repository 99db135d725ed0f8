pub mod Reading
pub mod Writing
pub mod Runs
pub mod Backs
