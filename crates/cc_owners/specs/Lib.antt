pub mod Members
pub mod Places
pub mod Index
pub mod Known
pub mod Entered
pub mod Beyond
pub mod Fields
