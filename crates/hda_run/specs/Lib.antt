-- Worlds of workers that run.
pub mod Faults
pub mod Lanes
pub mod Jobs
pub mod Worlds
pub mod Kinds
pub mod Headline
pub mod Alone
pub mod WholeRuns
pub mod Answered
pub mod Rounds
pub mod Laws
