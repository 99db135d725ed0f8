pub mod Frames
pub mod FrameSpelling
pub mod FrameLaws
pub mod Talk
pub mod Clone
