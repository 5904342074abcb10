-- What the clauses of public functions and laws add: nobody has to believe this for `verified UNSAT`.
pub mod Automaton
pub mod Digits
pub mod Events
pub mod Feeding
pub mod Fields
pub mod FormatLaws
pub mod OverState
pub mod NothingRead
pub mod Over
pub mod Parts
pub mod Pouring
pub mod Pulled
pub mod Reasons
pub mod Source
pub mod Standing
pub mod Staying
