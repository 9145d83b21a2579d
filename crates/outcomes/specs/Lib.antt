pub mod Outcomes
pub mod Endings
pub mod Words
pub mod Faults
pub mod Laws
