-- What must be believed of a command: docs/TRUST.md lists which definitions of these files.
pub mod Decided
pub mod Files
pub mod Headline
pub mod Verified
