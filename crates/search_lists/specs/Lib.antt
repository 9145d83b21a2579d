-- The open and the closed list of a search.
pub mod Lists
pub mod Orders
pub mod Laws
