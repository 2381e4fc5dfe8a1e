pub mod Numbered
pub mod Fakes
pub mod PlainRuns
pub mod PlainLaws
pub mod PlainPages
pub mod FailingPages
