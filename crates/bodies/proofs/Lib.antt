pub mod Keeping
pub mod LiteralItems
pub mod ElementItems
pub mod LineStarts
pub mod BodyReading
pub mod BodyPlaces
