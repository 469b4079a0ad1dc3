pub mod Growth
pub mod Stored
pub mod Loop
pub mod Whole
pub mod Ends
pub mod Determined
