-- Clauses with two watched literals each.
pub mod Truths
pub mod Links
pub mod Blocks
pub mod Runs
pub mod Shapes
pub mod Walked
pub mod Marks
