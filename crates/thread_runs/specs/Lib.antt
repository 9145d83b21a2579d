-- Runs by threads.
pub mod Solved
pub mod Laws
pub mod Ledgers
pub mod Lanes
pub mod Worlds
pub mod Threads
pub mod JoinedLaws
