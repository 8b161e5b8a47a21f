pub mod AcceptanceTheorems
pub mod ListingOrder
pub mod ListingTheorems
pub mod ExplainTheorems
