pub mod Texts
pub mod Given
pub mod Calls
pub mod Ends
pub mod CheckLine
pub mod Plans
pub mod Checks
