pub mod Standing
pub mod Lower
