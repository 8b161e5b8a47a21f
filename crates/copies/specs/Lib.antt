pub mod Answers
pub mod Copy
pub mod Operation
pub mod Inside
pub mod Theorems
