pub mod Fronts
pub mod Streams
pub mod Spelled
mod Laws
pub mod Talks
