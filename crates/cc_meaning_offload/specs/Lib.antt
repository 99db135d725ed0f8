pub mod Jobs
pub mod Served
pub mod Clones
pub mod Received
pub mod Exchanges
pub mod Places
pub mod Laws
pub mod Worked
