pub mod Named
pub mod Table
pub mod Walk
