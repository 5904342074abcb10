-- The states and the steps of the machines, and what bodies and proofs need.
pub mod line
pub mod machine
