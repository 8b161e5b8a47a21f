pub mod Walk
pub mod Keys
