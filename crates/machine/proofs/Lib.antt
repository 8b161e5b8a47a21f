pub mod Tables
pub mod Steps
pub mod Growing
pub mod Starts
pub mod Reasons
pub mod Offers
pub mod Users
pub mod MachineChecks
