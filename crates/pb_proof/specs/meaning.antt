-- What must be believed of proofs: docs/TRUST.md lists which definitions of these files.
pub mod Asking
pub mod Canonical
pub mod Lines
pub mod Order
pub mod Postfix
pub mod Proofs
pub mod Reading
