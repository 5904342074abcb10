-- Lemmas of the machine of sums.
pub mod Asked
pub mod Complete
pub mod Counts
pub mod Flags
pub mod Prefixes
pub mod LetterKinds
pub mod Links
pub mod LiteralPrefixes
pub mod Pushes
pub mod Sound
pub mod States
pub mod Theorems
pub mod WholeTexts
