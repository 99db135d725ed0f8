pub mod Rows
pub mod Params
pub mod Needs
pub mod Places
pub mod Made
