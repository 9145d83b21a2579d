pub mod Tables
pub mod Folds
pub mod Entries
pub mod Laws
