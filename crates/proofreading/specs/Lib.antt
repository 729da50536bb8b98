pub mod Words
pub mod Proofreading
pub mod Showing
pub mod Verdicts
pub mod Tallies
pub mod Reports
