-- Laws: a growing table, and where it ends.
pub mod Invariant
pub mod FinishedIsClosure
pub mod GrownCounts
pub mod SmallestRange
