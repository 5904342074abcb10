-- Lemmas of instances, their statements and their texts.
pub mod Again
pub mod Counted
pub mod Kept
pub mod Larger
pub mod OneValue
pub mod Spelled
pub mod Reported
