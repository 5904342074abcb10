-- What must be believed of a replay: docs/TRUST.md lists which definitions of these files.
pub mod Answer
pub mod Conclusions
pub mod Meaning
pub mod Problem
pub mod Replay
pub mod Statements
