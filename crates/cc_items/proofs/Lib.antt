pub mod Chosen
pub mod Groups
pub mod Lists
pub mod Widths
pub mod Shapes
