pub mod Inductive
pub mod Papers
pub mod Counting
pub mod Examples
