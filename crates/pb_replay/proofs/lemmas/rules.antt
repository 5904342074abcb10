-- Lemmas of the rules, each on a replay.
pub mod Live
pub mod Loading
pub mod Spread
pub mod Steps
pub mod Words
pub mod Completions
