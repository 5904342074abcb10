-- Lemmas of machines.
pub mod Admitted
pub mod Asked
pub mod Living
pub mod OneText
pub mod Outcomes
pub mod Residual
pub mod Running
pub mod Runs
pub mod Walking
