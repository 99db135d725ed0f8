pub mod Given
pub mod Lines
pub mod Going
pub mod Running
