pub mod Packing
pub mod Merging
