-- What the clauses of public functions and laws add: nobody has to believe this for `verified UNSAT`.
pub mod Faults
pub mod HashKeys
pub mod NameHasher
