-- Lemmas of terms, in lists and in maps.
pub mod Counts
pub mod KeyedTerms
pub mod Maps
pub mod Merging
pub mod Totals
