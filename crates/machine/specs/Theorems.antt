-- What is proved of the machine beyond the contracts of start and advance, by topic. Each statement is the contract of
-- a function of src/theorems.rt. Assumes nothing.
pub mod Steps
pub mod Bytes
pub mod Runs
pub mod Reasons
pub mod Turns
pub mod Offered
pub mod Entries
