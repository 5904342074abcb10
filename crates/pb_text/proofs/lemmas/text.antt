-- Lemmas of bytes, texts, languages and formats.
pub mod Blanks
pub mod Booleans
pub mod ByteTests
pub mod Deterministic
pub mod FirstBytes
pub mod FixedSpans
pub mod Formats
pub mod Languages
pub mod Letters
pub mod Lists
pub mod NameBytes
pub mod Parts
pub mod Results
pub mod Short
pub mod Spans
pub mod Writing
