pub mod Units
pub mod Matching
