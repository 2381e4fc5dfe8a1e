pub mod Ranges
pub mod Space
