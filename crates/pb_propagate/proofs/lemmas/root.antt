-- Lemmas of the root, which questions continue from.
pub mod Added
pub mod Questions
pub mod Retracted
pub mod Rooted
pub mod Ready
pub mod Kept
