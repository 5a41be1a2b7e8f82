pub mod Outcomes
pub mod Faults
pub mod Lines
pub mod Fields
pub mod Cursors
pub mod Numbers
pub mod Reports
pub mod TextLines
