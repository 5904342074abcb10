-- What a grammar of lines is, and what its machine stores.
pub mod Grammar
pub mod Laws
pub mod Keeps
