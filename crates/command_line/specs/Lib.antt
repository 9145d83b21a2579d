pub mod Commands
pub mod Requests
pub mod Faults
pub mod Worked
pub mod Laws
