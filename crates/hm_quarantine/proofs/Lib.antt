pub mod Ages
pub mod Arrays
pub mod Counts
pub mod Passes
pub mod Rings
