pub mod Operation
pub mod Theorems
