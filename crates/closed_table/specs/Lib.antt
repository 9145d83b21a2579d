pub mod Tables
pub mod Chains
pub mod Storage
