pub mod Sets
pub mod Usefulness
pub mod Inside
pub mod Theorems
