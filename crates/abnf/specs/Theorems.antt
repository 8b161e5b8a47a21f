pub mod Pieces
pub mod Reading
