-- The part of a run that one thread has.
pub mod Parts
pub mod Steps
pub mod Rings
