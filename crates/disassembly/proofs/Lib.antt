pub mod Digits
pub mod Names
pub mod Fields
pub mod Rows
pub mod Listed
pub mod Sheets
