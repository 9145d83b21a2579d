pub mod SearchKeys
pub mod Storage
pub mod Laws
