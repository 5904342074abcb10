-- Lemmas of propagation.
pub mod Advances
pub mod Bridge
pub mod Literals
pub mod Propagated
pub mod Reasoned
pub mod Rests
pub mod Runs
pub mod Choices
pub mod Completing
