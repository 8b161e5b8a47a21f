pub mod GrowingIsCycle
pub mod Cyclic
pub mod Outcome
pub mod Meant
