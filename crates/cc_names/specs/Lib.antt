pub mod InOrder
pub mod Numbers
pub mod Candidates
pub mod Types
pub mod Pieces
