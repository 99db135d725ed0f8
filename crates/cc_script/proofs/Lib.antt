pub mod ByPlace
pub mod ClassLemmas
pub mod Each
pub mod Members
pub mod Places
pub mod Resolving
pub mod SeenLemmas
pub mod Values
