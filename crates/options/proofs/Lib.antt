pub mod Named
pub mod Dashes
pub mod Known
pub mod Grammar
pub mod Refusals
pub mod Bounds
pub mod Laws
