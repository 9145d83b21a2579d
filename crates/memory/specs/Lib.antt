pub mod Lends
pub mod Pages
