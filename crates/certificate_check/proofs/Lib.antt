pub mod RefusalLemmas
pub mod RowLemmas
