pub mod Parts
pub mod Whole
pub mod Exact
pub mod Counts
