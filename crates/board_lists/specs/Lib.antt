pub mod Classes
pub mod Walks
pub mod Lines
pub mod Lists
pub mod Laws
pub mod Worked
