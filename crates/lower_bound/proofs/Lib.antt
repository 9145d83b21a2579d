pub mod PartLemmas
pub mod ConsecutiveLemmas
pub mod SlideLemmas
