-- Runs whose answers are checked.
pub mod Certificates
pub mod Checked
pub mod Faults
pub mod Laws
