pub mod text
pub mod machine
pub mod feeder
pub mod source
pub mod numbers
