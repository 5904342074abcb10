-- What must be believed of propagation: docs/TRUST.md lists which definitions of this file.
pub mod Propagation
