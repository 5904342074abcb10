-- Lemmas about the proof machine.
pub mod Asks
pub mod States
pub mod Runs
pub mod Whole
pub mod Sound
pub mod Complete
pub mod Exact
