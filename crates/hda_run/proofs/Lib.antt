-- Lemmas.
mod PartsLemmas
mod AloneLemmas
mod BoundLemmas
mod LowestLemmas
pub mod LawLemmas
