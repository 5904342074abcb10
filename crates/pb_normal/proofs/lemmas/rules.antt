-- Lemmas of the rules on forms.
pub mod Bounds
pub mod Keeps
pub mod Scales
pub mod Sums
pub mod Unique
