pub mod SearchKeyLemmas
pub mod ZeroLemmas
