pub mod Layouts
pub mod Initialisers
pub mod Values
pub mod Made
pub mod Parts
pub mod Matching
pub mod Mains
pub mod Linking
