pub mod Letters
pub mod Marks
pub mod Keys
pub mod Inside
