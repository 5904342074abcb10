pub mod terms
pub mod rules
pub mod names
