pub mod Hindrance
pub mod Once
pub mod Figured
pub mod Upwards
