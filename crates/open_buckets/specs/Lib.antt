pub mod OpenLists
pub mod Buckets
pub mod Laws
