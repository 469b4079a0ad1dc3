pub mod Reply
pub mod Found
pub mod Line
