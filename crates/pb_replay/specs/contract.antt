-- What the clauses of public functions and laws add: nobody has to believe this for `verified UNSAT`.
pub mod Example
pub mod Faults
pub mod Fields
pub mod ReplayModel
pub mod Rules
pub mod Laws
pub mod Loading
pub mod Visits
