pub mod Sides
pub mod Tables
pub mod Party
pub mod Answers
