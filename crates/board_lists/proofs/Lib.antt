pub mod DrawLemmas
pub mod WalkLemmas
pub mod ListLemmas
pub mod ClassLemmas
