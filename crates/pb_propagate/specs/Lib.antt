pub mod meaning
pub mod engine
