pub mod machine
pub mod prefixes
pub mod values
