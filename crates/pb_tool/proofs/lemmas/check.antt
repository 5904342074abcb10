-- Lemmas of `pb check` and of a checker.
pub mod CheckerRuns
pub mod CheckerSteps
pub mod OneAnswer
pub mod OneRead
pub mod TwoSources
