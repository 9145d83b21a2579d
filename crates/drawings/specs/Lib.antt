pub mod Pictures
pub mod Drawings
pub mod Laws
pub mod Worked
