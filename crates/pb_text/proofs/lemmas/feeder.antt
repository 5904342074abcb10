-- Lemmas of the feeder.
pub mod Steps
pub mod Reported
