pub mod Table
pub mod Fields
pub mod Fronts
pub mod Determined
