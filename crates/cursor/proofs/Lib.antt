pub mod Stepping
pub mod HeadLaws
pub mod AfterLaws
pub mod LiteralLaws
