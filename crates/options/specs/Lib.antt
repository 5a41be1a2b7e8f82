pub mod Options
pub mod Names
pub mod Values
pub mod Mentions
pub mod Reading
pub mod Grammar
pub mod Bounds
