pub mod Line
pub mod Chain
pub mod Single
pub mod Planning
pub mod Told
pub mod Due
pub mod Statuses
