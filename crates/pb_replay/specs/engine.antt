-- What private functions ensure, and what the propagation engine stores.
pub mod Bounds
pub mod Constraints
pub mod Loading
pub mod Solutions
pub mod Stack
pub mod StackForms
