pub mod Tests
pub mod Rounds
pub mod Bodies
pub mod Raising
pub mod InPlace
pub mod KeptKeys
pub mod Papers
