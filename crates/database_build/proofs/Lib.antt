pub mod LeastLemmas
pub mod FoldLemmas
pub mod EntryLemmas
