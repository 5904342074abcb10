-- What the clauses of public functions add: nobody has to believe this for `verified UNSAT`.
pub mod Checked
pub mod Checker
pub mod Checks
pub mod Faults
pub mod Fields
pub mod Given
pub mod Normalised
pub mod Pieces
pub mod Refusals
pub mod Runs
pub mod Seen
pub mod Show
pub mod Tidy
pub mod Stays
pub mod Watched
