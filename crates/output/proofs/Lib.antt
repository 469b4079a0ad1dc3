pub mod Output
pub mod Parts
