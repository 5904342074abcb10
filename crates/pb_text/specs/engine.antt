-- What bodies and proofs need.
pub mod Prefixes
pub mod SpentBytes
