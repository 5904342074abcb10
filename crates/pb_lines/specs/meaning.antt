-- The texts of lines.
pub mod LineEnds
