pub mod machine
pub mod instances
