pub mod Offsets
pub mod Stretches
pub mod Numbers
pub mod PieceSizes
pub mod Leaving
