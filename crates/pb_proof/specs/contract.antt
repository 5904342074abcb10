-- What the clauses of public functions and laws add: nobody has to believe this for `verified UNSAT`.
pub mod Fields
pub mod Formats
pub mod Gather
pub mod Leaving
pub mod ValueLaws
pub mod Values
