pub mod Orders
pub mod Sets
pub mod Regions
pub mod Numberings
pub mod Edges
pub mod Graphs
pub mod Frames
pub mod Placements
