pub mod Escapes
pub mod Pieces
