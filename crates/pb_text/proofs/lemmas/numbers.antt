-- Lemmas of numbers and digits.
pub mod DigitValues
pub mod DigitWalks
pub mod Numbers
