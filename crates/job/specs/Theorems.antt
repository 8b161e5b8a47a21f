pub mod InRange
pub mod OrderFree
pub mod RankCounts
pub mod StateCount
pub mod WiderClasses
