pub mod meaning
pub mod contract
pub mod engine
