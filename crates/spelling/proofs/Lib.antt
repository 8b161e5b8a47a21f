pub mod Placing
pub mod Decimal
pub mod PlacedDigits
pub mod LineLengths
