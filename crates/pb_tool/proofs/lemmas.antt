pub mod check
pub mod show
pub mod file
pub mod tidy
