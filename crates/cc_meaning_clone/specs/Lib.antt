pub mod Served
pub mod Hello
pub mod Plain
pub mod Worked
pub mod Functions
