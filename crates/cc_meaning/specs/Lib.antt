pub mod BuiltIn
pub mod Kinds
pub mod Lookup
pub mod Names
pub mod Order
pub mod Words
