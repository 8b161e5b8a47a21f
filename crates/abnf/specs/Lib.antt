pub mod Bytes
pub mod Text
pub mod Pieces
pub mod Reading
pub mod Meaning
pub mod Uses
pub mod Theorems
