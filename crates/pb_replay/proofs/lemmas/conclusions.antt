-- Lemmas of conclusions and of the best value.
pub mod Bounding
pub mod Concluded
