pub mod Solving
pub mod Ahead
pub mod Laws
