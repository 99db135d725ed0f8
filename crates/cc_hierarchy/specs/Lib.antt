pub mod Members
pub mod Graphs
pub mod Indexes
pub mod Judging
pub mod Numbers
pub mod FromTheTop
