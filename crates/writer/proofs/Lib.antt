pub mod Numbers
pub mod Rows
pub mod Links
pub mod Whole
pub mod Writing
