mod Agree
pub mod Alike
pub mod BitSets
mod Cuts
mod Derivations
mod Gathers
mod Numbering
pub mod Sets
pub mod Spelled
mod Spells
mod Steps
mod Tables
mod TagNumbers
pub mod TagSets
mod TagSpreads
pub mod Walks
