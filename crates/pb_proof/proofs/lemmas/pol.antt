-- Lemmas about postfix words, and about the machine that reads them.
pub mod Postfix
pub mod Moves
pub mod Spelling
pub mod Reads
pub mod Theorems
