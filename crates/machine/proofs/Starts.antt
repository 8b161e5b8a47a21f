-- Laws: what start writes, and runs from a start.
pub mod EmptyRules
pub mod StartLaws
pub mod StartCounts
pub mod StartGiven
pub mod StartLoops
pub mod StartRules
pub mod StartDone
pub mod StartWalk
pub mod Giving
pub mod Looping
