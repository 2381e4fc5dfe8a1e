pub mod Apart
pub mod Cuts
pub mod Fits
pub mod Joins
pub mod Multiples
pub mod Indices
