-- What must be believed of instances: docs/TRUST.md lists which definitions of these files.
pub mod Asking
pub mod Gather
pub mod Instances
pub mod Reading
pub mod Values
