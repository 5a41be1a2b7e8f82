pub mod Labels
pub mod Taking
pub mod Laying
pub mod Laws
