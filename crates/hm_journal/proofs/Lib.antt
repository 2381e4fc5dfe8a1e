pub mod Each
pub mod EntryBack
pub mod Exact
pub mod LineBack
pub mod Numbers
pub mod OneEntry
mod OneLine
mod ReadBack
mod Spaced
pub mod Splits
mod WordsFrom
