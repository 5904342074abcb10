mod Machine
pub mod Values
