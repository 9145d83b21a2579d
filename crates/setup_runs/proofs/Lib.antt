pub mod SolvingLemmas
pub mod LawLemmas
