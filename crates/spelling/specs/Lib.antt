pub mod Words
pub mod Lines
pub mod Records
pub mod Theorems
pub mod Inside
