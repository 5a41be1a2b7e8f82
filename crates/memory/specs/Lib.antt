pub mod Contents
pub mod Images
