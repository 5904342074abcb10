-- What the clauses of public functions and laws add: nobody has to believe this for `verified UNSAT`.
pub mod Canonical
pub mod Fields
pub mod MachineFields
pub mod Laws
