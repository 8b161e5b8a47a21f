pub mod Half
pub mod Ones
