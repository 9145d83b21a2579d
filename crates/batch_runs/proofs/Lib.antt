pub mod TruthLemmas
pub mod BatchLemmas
pub mod FindingLemmas
pub mod TextLemmas
pub mod ReadLemmas
