pub mod StepLemmas
pub mod TextLemmas
