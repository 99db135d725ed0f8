pub mod Arithmetic
pub mod Opcodes
pub mod Forms
pub mod Payloads
pub mod Decoded
pub mod Spelling
pub mod Laws
