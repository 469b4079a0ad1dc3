pub mod Determined
pub mod Back
