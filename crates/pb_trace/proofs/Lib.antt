mod Common
pub mod Deriving
pub mod ReasonLines
pub mod Storing
pub mod Texts
