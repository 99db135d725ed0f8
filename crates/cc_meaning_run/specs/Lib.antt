pub mod World
pub mod Acts
pub mod Instructions
pub mod Eval
pub mod Invocations
pub mod Local
pub mod Laws
