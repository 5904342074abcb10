-- Lemmas of `pb tidy`.
pub mod InstanceLines
pub mod NormalFile
pub mod ProofLines
pub mod TidiedAgain
