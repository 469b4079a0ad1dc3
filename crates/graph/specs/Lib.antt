pub mod Rates
pub mod Model
pub mod Memory
