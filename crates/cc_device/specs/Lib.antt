pub mod Exchanging
pub mod Judging
pub mod Travelling
