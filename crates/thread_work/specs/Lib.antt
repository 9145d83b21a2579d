-- The threads of a run.
pub mod Promises
