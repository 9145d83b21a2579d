pub mod SinkLemmas
pub mod SourceLemmas
