pub mod RankLemmas
pub mod CellLemmas
pub mod SightLemmas
pub mod PlaceLemmas
pub mod ViewMoveLemmas
pub mod GroupLemmas
pub mod FaultLemmas
pub mod StorageLemmas
pub mod SplitLemmas
pub mod SparseLemmas
mod SlotLemmas
