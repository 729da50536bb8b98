pub mod OneMore
pub mod Likeness
