pub mod Planning
pub mod Due
pub mod Outcomes
pub mod Statuses
pub mod Running
pub mod Offloading
