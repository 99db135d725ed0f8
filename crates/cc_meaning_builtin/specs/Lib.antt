pub mod Rows
pub mod Printing
pub mod Acts
pub mod Calls
pub mod Listing
