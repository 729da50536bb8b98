pub mod Takes
pub mod Chains
mod Fronts
mod Cuts
