pub mod Figures
pub mod Printing
pub mod Determined
pub mod Samples
pub mod Displayed
