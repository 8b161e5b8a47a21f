-- What is proved of bit tables beyond the contracts of the operations. Each statement is the contract of a function of
-- src/theorems.rt. Assumes nothing.
pub mod Steps
pub mod Turns
pub mod Kept
