mod BitLoops
mod Choosing
mod Following
mod Fronts
pub mod Lengths
mod Lowest
mod Nearness
mod Offering
mod Optimal
mod Reading
mod Tables
mod Whole
