pub mod Text
pub mod Findings
pub mod Marks
pub mod Summary
pub mod Counts
pub mod Totals
