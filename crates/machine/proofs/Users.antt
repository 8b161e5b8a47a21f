-- Laws: the rules by the symbols of their bodies.
pub mod Appending
pub mod Mentioning
pub mod Listed
