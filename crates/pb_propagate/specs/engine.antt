-- What the propagation engine stores, and what its functions ensure.
pub mod clauses
pub mod engine
pub mod Parts
pub mod Columns
pub mod OpenSums
