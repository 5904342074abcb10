-- What private functions ensure.
pub mod Gathered
pub mod InstanceText
pub mod NormalText
pub mod Opening
pub mod Page
pub mod ProofText
pub mod Running
pub mod Single
