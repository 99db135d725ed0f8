pub mod Placed
pub mod Units
pub mod Walks
pub mod Knowing
pub mod Spelling
