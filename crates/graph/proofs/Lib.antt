pub mod Laid
pub mod Rates
pub mod Stores
