-- What must be believed of texts: docs/TRUST.md lists which definitions of these files.
pub mod Asking
pub mod Blank
pub mod Classes
pub mod Languages
pub mod Limits
pub mod Numbers
pub mod Pulling
pub mod PullsInARow
pub mod Reading
pub mod Spelling
pub mod Stopping
pub mod Whole
pub mod Writing
