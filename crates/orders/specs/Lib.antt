pub mod Orders
pub mod Printing
