mod Yielding
pub mod Groups
pub mod Laying
mod Numbers
mod Entries
mod RoundTrip
mod FirstFaults
mod Filling
mod Scans
mod Writes
