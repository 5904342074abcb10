-- Lemmas of the store of forms: their terms, entries and slots.
pub mod Changes
pub mod Gets
pub mod Links
pub mod Placed
pub mod Positions
pub mod Stored
pub mod Options
