pub mod FormPacked
