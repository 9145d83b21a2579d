pub mod Faults
pub mod Endings
pub mod Setups
pub mod Programs
pub mod Headline
pub mod Laws
