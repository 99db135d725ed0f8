pub mod Upward
pub mod Definitions
pub mod Interfaces
pub mod BuiltIn
pub mod Ancestors
pub mod Tables
pub mod Classes
pub mod Lists
pub mod Names
pub mod Raw
pub mod Hierarchy
pub mod Counts
pub mod WellFormed
pub mod Bounds
pub mod Standing
pub mod Origins
pub mod Totals
pub mod Mains
pub mod Complete
mod FirstCauses
mod FirstFaults
