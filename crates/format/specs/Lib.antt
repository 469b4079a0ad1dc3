pub mod Growth
pub mod Record
pub mod Reader
pub mod Writer
pub mod Ranges
