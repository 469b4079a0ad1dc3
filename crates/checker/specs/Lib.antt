pub mod Outcome
pub mod Channels
pub mod Check
