pub mod Names
pub mod Rows
pub mod Sheets
pub mod Laws
