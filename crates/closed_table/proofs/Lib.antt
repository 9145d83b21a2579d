pub mod PlaceLemmas
pub mod BucketLemmas
pub mod FindLemmas
pub mod RelinkLemmas
pub mod CountLemmas
pub mod IndexLemmas
pub mod TableLemmas
pub mod SlotLemmas
