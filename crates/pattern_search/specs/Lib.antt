pub mod Searches
pub mod Layers
