pub mod engine
pub mod store
pub mod clauses
pub mod root
pub mod Parts
pub mod Spans
pub mod Columns
pub mod OpenSums
