pub mod Clauses
pub mod Engine
pub mod Store
