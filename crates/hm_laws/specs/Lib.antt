pub mod Kept
pub mod Replies
pub mod Steps
pub mod Moves
pub mod Answers
pub mod Light
pub mod Notes
