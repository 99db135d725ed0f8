pub mod Layout
pub mod Rows
pub mod Whole
pub mod Laws
pub mod Section
pub mod Items
pub mod Writing
