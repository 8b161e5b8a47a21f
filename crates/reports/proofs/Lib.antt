pub mod Outcome
pub mod Through
pub mod Means
pub mod Sample
