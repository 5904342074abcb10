-- Lemmas about conclusions.
pub mod Numbers
pub mod Spelling
pub mod Complete
pub mod Theorems
