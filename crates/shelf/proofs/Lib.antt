pub mod Bridging
pub mod HistorySteps
pub mod LanguageLaws
pub mod Answering
pub mod Wording
pub mod Splitting
pub mod Likeness
