-- The machine for proofs: what it does with one byte, and its states.
pub mod State
pub mod Transition
pub mod Whole
