-- What a worker is lent of its task, and owners that no hash gives.
pub mod Jobs
pub mod Rows
