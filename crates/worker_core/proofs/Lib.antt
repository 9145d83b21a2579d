pub mod GuideLemmas
mod ExpandLemmas
mod BackLemmas
