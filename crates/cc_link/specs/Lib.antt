pub mod Links
pub mod Honest
pub mod CannedBytes
