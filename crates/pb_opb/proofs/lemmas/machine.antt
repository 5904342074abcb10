-- Lemmas of the machine of instances.
pub mod Alive
pub mod Asked
pub mod Bodies
pub mod EntryPrefix
pub mod HeaderPrefix
pub mod HeaderWalk
pub mod Objectives
pub mod Pushed
pub mod Stands
pub mod Taken
