pub mod Fed
pub mod Refuted
pub mod Rewritten
