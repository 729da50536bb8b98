pub mod Causes
pub mod LetterForms
pub mod Letters
pub mod Readings
pub mod Signs
pub mod WordForms
pub mod Words
pub mod WordSteps
