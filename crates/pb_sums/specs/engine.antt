-- The states and the steps of the machine, and what bodies and proofs need.
pub mod Machine
pub mod Names
pub mod Prefix
pub mod State
pub mod TermParts
