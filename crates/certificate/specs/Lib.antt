pub mod Certificates
pub mod Spellings
pub mod Fields
pub mod Readings
pub mod Faults
pub mod Sources
pub mod Laws
