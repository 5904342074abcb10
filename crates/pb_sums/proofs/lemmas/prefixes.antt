-- Lemmas of what is taken at once.
pub mod Digits
pub mod Names
pub mod TermParts
