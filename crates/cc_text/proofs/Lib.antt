pub mod Leb
pub mod Fronts
pub mod Reading
pub mod Sums
pub mod Signed
pub mod Items
