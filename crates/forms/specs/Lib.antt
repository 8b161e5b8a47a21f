pub mod Answers
pub mod Acceptance
pub mod Listing
pub mod Grounded
pub mod Operations
pub mod Inside
pub mod Theorems
