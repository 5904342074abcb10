-- Lemmas of clauses and their watches.
pub mod Blocks
pub mod Counts
pub mod Heads
pub mod Listed
pub mod Literals
pub mod Shapes
pub mod Stores
pub mod Visited
pub mod Walks
