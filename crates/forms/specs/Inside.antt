pub mod AcceptanceParts
pub mod ListingParts
pub mod ExplainParts
