pub mod Acceptance
pub mod Samples
