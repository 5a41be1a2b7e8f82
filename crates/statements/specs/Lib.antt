pub mod Letters
pub mod Faults
pub mod Words
pub mod Forms
pub mod Grammar
