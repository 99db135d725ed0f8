pub mod Ascii
pub mod Code
pub mod Uses
pub mod Class
