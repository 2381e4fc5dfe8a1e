pub mod Shown
pub mod Rule
pub mod Known
