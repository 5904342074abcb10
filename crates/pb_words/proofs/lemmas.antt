-- Lemmas of the arguments.
pub mod Added
pub mod Entries
pub mod NoHelp
pub mod Parsed
