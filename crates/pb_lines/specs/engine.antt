-- The machine for lines that are made of words.
pub mod Words
pub mod WordsFields
pub mod WordsWhole
pub mod WordTexts
