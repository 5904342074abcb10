mod Common
pub mod lemmas
