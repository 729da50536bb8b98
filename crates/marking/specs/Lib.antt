pub mod Tags
pub mod Answers
