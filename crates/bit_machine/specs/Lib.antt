pub mod Answers
pub mod BitTable
pub mod Machine
pub mod Alike
pub mod Operations
pub mod Theorems
pub mod Inside
