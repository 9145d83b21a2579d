pub mod EntryLemmas
pub mod MoveLemmas
