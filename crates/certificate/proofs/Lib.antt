pub mod ReaderLemmas
pub mod CostLemmas
pub mod TextLemmas
pub mod RowLemmas
pub mod GroupLemmas
pub mod SourceLemmas
pub mod CertificateLemmas
pub mod LawLemmas
