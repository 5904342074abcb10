-- Lemmas of `pb show`.
pub mod ShownStatements
