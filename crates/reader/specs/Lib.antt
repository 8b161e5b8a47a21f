pub mod Walk
pub mod Parts
