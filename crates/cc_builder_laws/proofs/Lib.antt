pub mod Parts
pub mod Widths
pub mod Lebs
pub mod Signed
pub mod Written
pub mod Fitted
mod ValueNumbers
mod Fields
mod Values
mod ValuesFollowing
pub mod MemberParts
pub mod Sizes
pub mod CodeItems
pub mod Ordered
pub mod Following
pub mod MemberLists
pub mod Members
pub mod Handlers
pub mod Tries
pub mod Pairs
pub mod Own
pub mod AddedHandlers
pub mod ReadAgain
