pub mod Bit
pub mod PositionSets
pub mod RowList
pub mod Reads
pub mod Stretches
pub mod Tracks
