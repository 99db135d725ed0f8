pub mod Family
pub mod Rising
