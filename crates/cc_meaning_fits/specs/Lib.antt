pub mod Fits
pub mod Premises
pub mod Soundness
