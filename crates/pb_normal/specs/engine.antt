-- What private functions ensure, and what bodies and proofs need.
pub mod Adds
pub mod Bodies
pub mod Codes
pub mod Compact
pub mod Growing
pub mod Keyed
pub mod NameTable
pub mod Raw
pub mod Reading
