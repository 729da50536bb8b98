pub mod Runs
pub use Rattle.shelf.specs.Histories
pub use Rattle.shelf.specs.Places
