pub mod Lawful
pub mod Answers
pub mod Faults
