pub mod Shapes
pub mod Noted
pub mod Held
pub mod Flat
