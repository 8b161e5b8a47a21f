pub mod Answers
pub mod Verdicts
pub mod Operation
pub mod Meaning
pub mod Inside
pub mod Theorems
