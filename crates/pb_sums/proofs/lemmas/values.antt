-- Lemmas of values and their texts.
pub mod CanonicalLaws
pub mod Elements
pub mod Larger
pub mod Shorts
pub mod Within
pub mod Written
