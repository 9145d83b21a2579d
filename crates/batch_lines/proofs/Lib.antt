pub mod LineLemmas
pub mod WordLemmas
pub mod NumberLemmas
pub mod FaultLemmas
pub mod LawLemmas
pub mod TextLemmas
pub mod CostLemmas
pub mod OptionLawLemmas
