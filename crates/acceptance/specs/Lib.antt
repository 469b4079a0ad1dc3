pub mod Worth
pub mod Samples
