pub mod Maps
pub mod Worlds
pub mod Acts
pub mod Ends
pub mod Laws
pub mod Migration
