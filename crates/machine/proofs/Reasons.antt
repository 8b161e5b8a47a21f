-- Laws: reasons that fit.
pub mod Turns
pub mod Steps
pub mod Runs
pub mod Entries
