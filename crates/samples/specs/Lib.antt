pub mod Samples
pub mod Figures
