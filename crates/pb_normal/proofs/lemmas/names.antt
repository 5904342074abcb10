-- Lemmas of names and of written constraints.
pub mod Appearing
pub mod Loaded
pub mod Numbering
pub mod Tables
pub mod WrittenForms
