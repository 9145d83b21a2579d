pub mod CertifyLemmas
pub mod HeadlineLemmas
pub mod EndLemmas
