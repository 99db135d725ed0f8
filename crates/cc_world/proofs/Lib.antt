pub mod Spending
pub mod Rows
pub mod Noting
pub mod Flat
pub mod Heaps
pub mod Growing
