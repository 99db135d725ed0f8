pub mod Made
pub mod Effects
