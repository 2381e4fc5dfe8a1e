pub mod Kept
pub mod Maps
pub mod Marks
pub mod Uses
pub mod Words
