pub mod Readings
mod Pushes
