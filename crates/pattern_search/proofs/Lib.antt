pub mod SearchLemmas
pub mod LayerLemmas
