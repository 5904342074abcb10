-- What must be believed of forms: docs/TRUST.md lists which definitions of these files.
pub mod Constraints
pub mod Form
pub mod Names
pub mod Rules
pub mod Written
