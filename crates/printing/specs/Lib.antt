pub mod Outputs
pub mod Written
pub mod Theorems
