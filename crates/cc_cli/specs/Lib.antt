pub mod Plans
pub mod Offloading
pub mod Runs
pub mod Statuses
pub mod Checking
