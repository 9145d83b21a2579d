pub mod OwnerLemmas
pub mod OfferLemmas
