pub mod FigureLemmas
pub mod PartLemmas
pub mod RowLemmas
