pub mod Bits
pub mod BitTests
mod Turns
mod Ends
mod Sweeps
mod Marking
