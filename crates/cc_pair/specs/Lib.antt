pub mod Counting
pub mod Pairs
pub mod Clones
pub mod Calls
pub mod Fair
