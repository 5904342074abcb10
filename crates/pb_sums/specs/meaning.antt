-- What must be believed of sums: docs/TRUST.md lists which definitions of these files.
pub mod Asking
pub mod Sums
