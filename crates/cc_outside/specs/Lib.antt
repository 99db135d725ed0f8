pub mod Counting
pub mod Telling
pub mod Shelves
pub mod Sinks
pub mod Failing
pub mod FilesInMemory
pub mod TextInMemory
