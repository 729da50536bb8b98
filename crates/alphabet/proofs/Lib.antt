pub mod LettersRead
pub mod WordsRead
