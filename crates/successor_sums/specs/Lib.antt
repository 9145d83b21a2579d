pub mod ByMoves
pub mod Unpacked
