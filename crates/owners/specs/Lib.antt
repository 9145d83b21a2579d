-- Which worker owns a board.
pub mod Owners
pub mod Slides
pub mod Worked
pub mod Offers
pub mod Room
pub mod Terms
