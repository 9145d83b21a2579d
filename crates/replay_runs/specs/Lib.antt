-- Replays: a board line, the steps that follow it, and what is written for each.
pub mod Replies
pub mod Stepping
pub mod Replays
pub mod Openings
pub mod Steps
pub mod Answers
pub mod Worked
