pub mod Given
pub mod Load
