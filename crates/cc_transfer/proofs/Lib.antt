pub mod Elements
pub mod Descriptors
pub mod Places
pub mod Targets
pub mod Lengths
