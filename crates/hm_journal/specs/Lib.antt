pub mod Words
pub mod Entries
pub mod Journals
pub mod Ranges
pub mod Runs
pub mod Lines
pub mod Reading
