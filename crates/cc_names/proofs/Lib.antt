pub mod Ordered
pub mod Found
pub mod Dims
pub mod TextRows
pub mod Candidacy
pub mod Typing
pub mod Joining
pub mod MemberPieces
