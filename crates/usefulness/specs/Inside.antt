pub mod Flags
pub mod Passes
