pub mod Stages
pub mod Channels
pub mod All
pub mod Files
pub mod Determined
pub mod Copy
