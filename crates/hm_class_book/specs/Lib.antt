pub mod Book
pub mod Sources
pub mod Picks
pub mod Kinds
pub mod Follows
pub mod Reached
pub mod Said
pub mod Asked
