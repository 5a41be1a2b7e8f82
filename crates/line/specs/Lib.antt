pub mod Laws
pub mod Owed
pub mod Printing
pub mod Quiet
pub mod Rules
pub mod Cues
pub mod Script
