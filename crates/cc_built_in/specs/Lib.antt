pub mod BuiltInMethods
pub mod Listed
