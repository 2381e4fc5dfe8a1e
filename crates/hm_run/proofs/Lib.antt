pub mod Taking
pub mod Completed
pub mod TooLong
pub mod Counting
pub mod NoteOrder
mod Numerals
pub mod Valid
pub mod Causes
pub mod Outcomes
pub mod Tracking
pub mod Summing
pub mod Exact
pub mod FirstFaults
pub mod Checked
pub mod ToldChecks
mod Journals
mod PlanFindings
mod EntryFindings
mod NoteLines
mod Told
