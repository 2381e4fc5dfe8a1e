pub mod Readers
pub mod Verdicts
pub mod Journals
pub mod FirstFaults
pub mod RegionBooks
pub mod Progress
