-- Contracts of inner functions.
pub mod Word
pub mod Change
pub mod Index
