pub mod Pairs
pub mod KnownNames
pub mod InOrder
pub mod Widths
pub mod SaidValues
pub mod Marks
pub mod ClassesMade
pub mod FoundRows
mod Showing
mod Finishing
