-- The states and the steps of the machine, and what bodies and proofs need.
pub mod Led
pub mod Machine
pub mod Order
pub mod State
