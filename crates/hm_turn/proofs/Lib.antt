pub mod Histories
pub mod Views
pub mod Queues
pub mod Numbers
pub mod Keeps
pub mod Callers
