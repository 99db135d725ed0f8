pub mod Answered
pub mod Stepping
pub mod Payloads
pub mod Names
pub mod Judged
pub mod Serving
