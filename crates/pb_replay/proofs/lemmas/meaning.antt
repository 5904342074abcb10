-- Lemmas of what is true of a state, and of what is accepted.
pub mod Accepting
pub mod Propagated
pub mod Relating
pub mod Ruled
pub mod Soundness
pub mod Assigned
