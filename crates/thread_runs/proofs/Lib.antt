-- Lemmas.
pub mod LawLemmas
pub mod TakenLemmas
pub mod WorldLemmas
