pub mod InOrder
pub mod BracketsLeft
pub mod Spending
pub mod Effecting
pub mod Ending
