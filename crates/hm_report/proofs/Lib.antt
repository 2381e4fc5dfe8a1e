pub mod EachCount
mod NoFindings
mod OneLines
mod Marked
