pub mod Written
pub mod Counts
