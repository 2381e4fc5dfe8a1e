pub mod Changes
pub mod MapBits
pub mod Searches
pub mod Slots
pub mod WordBits
