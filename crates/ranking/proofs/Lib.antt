pub mod Reaching
pub mod Orders
pub mod Likeness
mod Extents
