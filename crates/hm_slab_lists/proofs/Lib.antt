pub mod ByNumber
pub mod Joining
pub mod Neighbours
pub mod Numbering
pub mod Indices
pub mod Tables
pub mod Unlinking
pub mod Whole
