-- Lemmas of the files that `pb show` and `pb tidy` read.
pub mod GivenBytes
pub mod LoadedFile
