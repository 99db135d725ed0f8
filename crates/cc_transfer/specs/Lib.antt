pub mod Landmarks
pub mod Bodies
pub mod Successors
pub mod Laws
