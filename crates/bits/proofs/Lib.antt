pub mod Joined
pub mod RowBytes
