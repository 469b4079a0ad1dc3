pub mod Signed
pub mod Lookup
