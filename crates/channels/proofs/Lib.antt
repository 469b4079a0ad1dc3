pub mod Fits
pub mod Multiples
pub mod Tables
pub mod Stretching
pub mod Casing
pub mod Deciding
pub mod Weighing
