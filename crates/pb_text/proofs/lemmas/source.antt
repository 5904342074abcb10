-- Lemmas of sources, and of what is pulled from them.
pub mod Drawn
pub mod PullsInARow
pub mod Unkept
pub mod Wholes
