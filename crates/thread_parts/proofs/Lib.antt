-- Lemmas on parts.
pub mod PartLemmas
pub mod EndLemmas
pub mod GridLemmas
