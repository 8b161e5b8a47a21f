pub mod Packed
pub mod Merged
