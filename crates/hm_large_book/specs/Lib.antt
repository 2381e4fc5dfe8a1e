pub mod Spaces
pub mod Book
pub mod Bytes
pub mod Changes
pub mod Freed
pub mod Guarded
pub mod Judged
pub mod Reached
