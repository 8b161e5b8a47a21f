pub mod Answers
pub mod Names
pub mod Bodies
pub mod Characters
pub mod Roles
pub mod Rules
pub mod Operation
pub mod Theorems
