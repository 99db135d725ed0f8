pub mod Walks
pub mod Joined
pub mod Ancestors
