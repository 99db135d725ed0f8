pub mod Pieces
pub mod Fairness
pub mod Upward
pub mod Following
pub mod Clauses
