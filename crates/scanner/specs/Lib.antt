pub mod Classes
pub mod Parts
