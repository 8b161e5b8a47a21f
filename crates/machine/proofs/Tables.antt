-- Laws: rules in range, places, what a table says, element by element.
pub mod RuleRanges
pub mod Places
pub mod Each
pub mod Layouts
pub mod Statuses
pub mod Bytes
pub mod FirstFrom
pub mod Lowest
pub mod SameLengths
