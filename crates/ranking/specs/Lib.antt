pub mod Laws
pub mod Numbers
pub mod OneOfTwo
pub mod Ranks
pub mod Sides
pub mod TagLengths
pub mod TagSets
pub mod Lengths
