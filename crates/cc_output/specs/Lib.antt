pub mod Carrying
pub mod Shown
pub mod Lines
pub mod Travel
pub mod Faults
