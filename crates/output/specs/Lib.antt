pub mod Output
pub mod Cursor
