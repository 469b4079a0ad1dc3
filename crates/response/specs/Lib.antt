pub mod Rivals
pub mod Response
