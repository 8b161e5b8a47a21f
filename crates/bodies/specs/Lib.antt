pub mod Items
pub mod Places
