-- Lemmas about the lines of statements, and about the machines that read them.
pub mod Asks
pub mod Laws
pub mod TextEnds
