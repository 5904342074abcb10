-- Machines for lines that are made of words.
pub mod Ends
pub mod TextEnds
pub mod Literals
pub mod Steps
pub mod Spelling
pub mod Walks
pub mod Asks
pub mod Theorems
pub mod Pushes
pub mod Whole
