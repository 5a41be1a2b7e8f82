pub mod Outcomes
pub mod LineLemmas
pub mod Fields
pub mod Numbers
