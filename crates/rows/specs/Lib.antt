pub mod Cells
pub mod Escapes
pub mod Rows
pub mod Texts
