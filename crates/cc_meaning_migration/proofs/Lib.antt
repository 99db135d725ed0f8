pub mod WorkedEntries
pub mod WorkedEnds
