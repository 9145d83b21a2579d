-- The end of a run: what its parts give.
pub mod Lowest
pub mod Parts
pub mod Plans
pub mod Rows
pub mod Endings
pub mod Readings
pub mod Laws
