-- Contracts of inner functions.
pub mod Users
pub mod Offers
pub mod Runs
pub mod StartParts
