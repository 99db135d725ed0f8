pub mod Spelling
pub mod Order
pub mod Capture
pub mod Instance
pub mod Reading
pub mod Forms
